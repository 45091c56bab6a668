-- When an input is in order, said without a reader: document 01, "One 01, then as many 02 as it says, the 03s, one 04 that counts
-- them; nothing after." Definitions only.
use Rattle.std.specs.Prelude.{◌≡◌, List, [], ◌∷◌, ◌++◌, length, Option, None, Some}
use Rattle.settings.specs.declared.Settings.{Settings}
use Rattle.frames.specs.declared.input.Frame.{Frame}
use Rattle.frames.specs.declared.input.Frame.TheVariants.{Settings as First, Special, Word, Count}

-- a frame is a 02
abbrev pub IsSpecial : Option Frame → Type 0
IsSpecial (Some (First settings specials)) = ⊥
IsSpecial (Some (Special from length)) = Unit {0}
IsSpecial (Some (Word frequency from length)) = ⊥
IsSpecial (Some (Count count)) = ⊥
IsSpecial None = ⊥

-- a frame is a 03
abbrev pub IsWord : Option Frame → Type 0
IsWord (Some (First settings specials)) = ⊥
IsWord (Some (Special from length)) = ⊥
IsWord (Some (Word frequency from length)) = Unit {0}
IsWord (Some (Count count)) = ⊥
IsWord None = ⊥

abbrev pub All : (Option Frame → Type 0) → List (Option Frame) → Type 0
All P [] = Unit {0}
All P (frame ∷ frames) = P frame × All P frames

-- the parts of an input that is in order
pub record InOrder (frames : List (Option Frame)) : Type 0 where
  pub settings : Settings
  pub specials : List (Option Frame)
  pub words : List (Option Frame)
  pub all_special : All IsSpecial specials
  pub all_words : All IsWord words
  pub is : frames ≡ Some (First settings (length specials)) ∷ specials ++ (words ++ Some (Count (length words)) ∷ [])
