-- No second outcome: the number and the place of a refusal say which refusal it is.
-- Assumes nothing.
use Rattle.std.specs.Prelude.{◌≡◌, refl, List, [], ◌∷◌, ℕ, zero, suc, ◌-◌}
use Rattle.std.proofs.Common.{sym, ◌∙◌, ap₂}
use Rattle.refusal.specs.Numbers.{number_of, place_of}
use Rattle.refusal.specs.declared.Refusal.{Refusal}
use Rattle.refusal.specs.declared.Refusal.TheVariants.{BadFrame, BadSetting, BadWord, RepeatedWord, TooHeavy, EmptyCorpus, NoRoom, VocabTooSmall, BadLattice, BadScore, NoPath, PathBroken, BadRemap, BadPiece, RepeatedPiece}

-- the table, a row after the other, each a refusal once its place is known
abbrev table : List (ℕ → Refusal)
table = BadFrame ∷ BadSetting ∷ BadWord ∷ RepeatedWord ∷ (λ p. TooHeavy) ∷ (λ p. EmptyCorpus) ∷ NoRoom ∷ VocabTooSmall ∷ BadLattice ∷ BadScore ∷ (λ p. NoPath) ∷ PathBroken ∷ BadRemap ∷ BadPiece ∷ RepeatedPiece ∷ []

-- the refusal of the row that stands at n, counted from 0; past the table any will do
abbrev row : List (ℕ → Refusal) → ℕ → ℕ → Refusal
row [] n p = NoPath
row (r ∷ rs) zero p = r p
row (r ∷ rs) (suc n) p = row rs n p

abbrev refusal_of : ℕ → ℕ → Refusal
refusal_of n p = row table (n - 1) p

back : (r : Refusal) → refusal_of (number_of r) (place_of r) ≡ r
back (BadFrame line) = refl
back (BadSetting setting) = refl
back (BadWord word) = refl
back (RepeatedWord word) = refl
back TooHeavy = refl
back EmptyCorpus = refl
back (NoRoom room) = refl
back (VocabTooSmall needed) = refl
back (BadLattice word) = refl
back (BadScore id) = refl
back NoPath = refl
back (PathBroken position) = refl
back (BadRemap entry) = refl
back (BadPiece id) = refl
back (RepeatedPiece id) = refl

pub no_second : (r s : Refusal) → number_of r ≡ number_of s → place_of r ≡ place_of s → r ≡ s
no_second r s n p = sym (back r) ∙ ap₂ refusal_of n p ∙ back s
