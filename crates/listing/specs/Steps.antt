-- What the steps ask and promise. Definitions only.
use Rattle.std.specs.Prelude.{◌≡◌, List, ℕ, ◌≤◌, length, Result, Ok, Err}
use Rattle.refusal.specs.declared.Refusal.{Refusal}
use Rattle.refusal.specs.declared.Refusal.TheVariants.{NoRoom}
use Rattle.spans.specs.Spans.{many}
use Rattle.corpus.specs.Check.{InOrder}
use Rattle.corpus.specs.Kept.{Kept}
use Rattle.seed.specs.Seed.{Lists as SeedLists, Exceeds}
use Rattle.settings.specs.Settings.{target_of, pool_of}
use Rattle.listing.specs.Start.{Lent, Left, positions_of, Bounded, corpus}
use Rattle.listing.specs.declared.Seeded.{Seeded}

-- what was checked, as the list needs it; the table is no part of it any more
pub record Listing (x : Lent) (kept counts chars places order work ranks : List ℕ) : Type 0 where
  pub short : x.settings.max_piece_chars ≤ 32
  pub paired : length x.frequencies ≡ many x.words
  pub table : List ℕ
  pub bounded : Bounded x.text x.words kept counts table (positions_of chars places order work ranks)
  pub words_fit : InOrder x.text x.words x.frequencies

-- the list where there are so many specials
abbrev pub Lists : Lent → ℕ → ℕ → List ℕ → List ℕ → Left → Result Seeded Refusal → Type 0
Lists x specials slots kept counts y (Ok seeded) =
    Kept x.text x.words x.frequencies (many x.words) kept counts y.kept y.counts seeded.words
    × SeedLists x.text (corpus x) x.settings.max_piece_chars x.settings.min_frequency (pool_of x.settings (target_of x.settings specials)) slots y.pieces y.tallies y.scores seeded.required seeded.pieces
Lists x specials slots kept counts y (Err refusal) =
    (refusal ≡ NoRoom 1) × Exceeds (corpus x) x.settings.max_piece_chars x.settings.min_frequency slots
