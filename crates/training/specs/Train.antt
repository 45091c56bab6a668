-- Training whole: what it is lent, when it is refused, and what it gives. Document 01's table, and port order 8 to 11. Definitions only.
use Rattle.std.specs.Prelude.{◌≡◌, Result, Ok, Err, Bool, List, ℕ, ◌≤◌, length, take, replicate, Float}
use Rattle.refusal.specs.declared.Refusal.{Refusal}
use Rattle.ranking.specs.Seed.{Uncut, Seeded}
use Rattle.listing.specs.Start as start
use Rattle.fresh.specs.Build as fresh
use Rattle.make.specs.Make.{Results, Late, Made}
use Rattle.finish.specs.Steps.{nought}
use Rattle.make.specs.declared.Trained.{Trained}

-- ---- what is lent to work in; crate start's Lent is what is lent to read, crate make's Results are the slices for the results
pub record Work : Type 0 where
  pub kept : List ℕ
  pub counts : List ℕ
  pub table : List ℕ
  pub chars : List ℕ
  pub places : List ℕ
  pub order : List ℕ
  pub work : List ℕ
  pub ranks : List ℕ
  pub pieces : List ℕ
  pub tallies : List ℕ
  pub scores : List Float
  pub expected : List Float
  pub keys : List ℕ
  pub ends : List ℕ
  pub offsets : List ℕ
  pub starts : List ℕ
  pub ids : List ℕ
  pub spans : List ℕ

-- the seed's slices; a piece has a slot of `scores` and one of `expected`, so that the shorter counts
abbrev pub seeding_work : Work → start.Work
seeding_work w =
    record {
      kept = w.kept;
      counts = w.counts;
      chars = w.chars;
      places = w.places;
      order = w.order;
      work = w.work;
      ranks = w.ranks;
      pieces = w.pieces;
      tallies = w.tallies;
      scores = take (fresh.smaller (length w.scores) (length w.expected)) w.scores;
      table = w.table;
    }

abbrev pub cache_slots : Work → fresh.Results
cache_slots w = record { offsets = w.offsets; starts = w.starts; ids = w.ids; spans = w.spans }

-- ---- the seed list: the words and settings are in order, and the list before its cut has its slots
pub record Seeds (x : start.Lent) (w : start.Work) (pieces : List (List ℕ)) (required : ℕ) : Type 0 where
  pub fit : start.Fit x (start.Room x w)
  pub seeded : Seeded (start.corpus x) x.settings.max_piece_chars x.settings.min_frequency (start.pool x) pieces required
  pub size : ℕ
  pub uncut : Uncut (start.corpus x) x.settings.max_piece_chars x.settings.min_frequency size
  pub fits : size ≤ start.slots w

-- ---- the answer: 2, 7 at 0, 3, 4, 5, 6 and 7 at 1 as crate start says; then what comes of the seed list
pub record Refuses (x : start.Lent) (w : Work) (y : Results) (refusal : Refusal) : Type 0 where
  pub pieces : List (List ℕ)
  pub required : ℕ
  pub seeds : Seeds x (seeding_work w) pieces required
  pub late : Late x w.keys w.ends (cache_slots w) y pieces required refusal

pub data Why (x : start.Lent) (w : Work) (y : Results) : Refusal → Type 0 where
  early : {refusal : Refusal} → start.Why x (seeding_work w) refusal → Why x w y refusal
  later : {refusal : Refusal} → Refuses x w y refusal → Why x w y refusal

pub record Gives (x : start.Lent) (w : Work) (y y' : Results) (count required : ℕ) (over : Bool) : Type 0 where
  pub pieces : List (List ℕ)
  pub seeds : Seeds x (seeding_work w) pieces required
  pub made : Made x w.keys w.ends (cache_slots w) y y' pieces required count over

-- "A refusal changes no result slice"
abbrev pub Answers : start.Lent → Work → Results → Results → Result Trained Refusal → Type 0
Answers x w y y' (Ok r) = Gives x w y y' r.tokens r.required r.stalled
Answers x w y y' (Err refusal) = Why x w y refusal × (y' ≡ y)

-- "Work slices hold zeros after every call, accepted or refused"
pub record Zeros (w w' : Work) : Type 0 where
  pub kept_zero : w'.kept ≡ replicate (length w.kept) 0
  pub counts_zero : w'.counts ≡ replicate (length w.counts) 0
  pub table_zero : w'.table ≡ replicate (length w.table) 0
  pub chars_zero : w'.chars ≡ replicate (length w.chars) 0
  pub places_zero : w'.places ≡ replicate (length w.places) 0
  pub order_zero : w'.order ≡ replicate (length w.order) 0
  pub work_zero : w'.work ≡ replicate (length w.work) 0
  pub ranks_zero : w'.ranks ≡ replicate (length w.ranks) 0
  pub pieces_zero : w'.pieces ≡ replicate (length w.pieces) 0
  pub tallies_zero : w'.tallies ≡ replicate (length w.tallies) 0
  pub scores_zero : w'.scores ≡ replicate (length w.scores) nought
  pub expected_zero : w'.expected ≡ replicate (length w.expected) nought
  pub keys_zero : w'.keys ≡ replicate (length w.keys) 0
  pub ends_zero : w'.ends ≡ replicate (length w.ends) 0
  pub offsets_zero : w'.offsets ≡ replicate (length w.offsets) 0
  pub starts_zero : w'.starts ≡ replicate (length w.starts) 0
  pub ids_zero : w'.ids ≡ replicate (length w.ids) 0
  pub spans_zero : w'.spans ≡ replicate (length w.spans) 0
