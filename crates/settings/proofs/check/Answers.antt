-- `settings::check` meets its contract: each place is given where those before it are within their bounds.
-- Assumes nothing.
use Rattle.settings.specs.Check.{bad_vocab, bad_seed, bad_length, bad_em, bad_specials}
use native.Mathlib.Omega.{arith}
use Rattle.settings.proofs.check.Goals as goal

pub returns-then-settings-gt-VOCAB_SIZE : goal.returns-then-settings-gt-VOCAB_SIZE
returns-then-settings-gt-VOCAB_SIZE c = bad_vocab (λ h. omega arith)

pub returns-then-not-seed_within : goal.returns-then-not-seed_within
returns-then-not-seed_within c = bad_seed (omega arith) c.if-not-seed_within.ensures

pub returns-then-settings-gt-PIECE_LENGTH : goal.returns-then-settings-gt-PIECE_LENGTH
returns-then-settings-gt-PIECE_LENGTH c = bad_length (omega arith) c.if-not-seed_within.ensures (λ h. omega arith)

pub returns-then-settings-gt-EM_ITERATIONS : goal.returns-then-settings-gt-EM_ITERATIONS
returns-then-settings-gt-EM_ITERATIONS c = bad_em (omega arith) c.if-not-seed_within.ensures (omega arith) (λ h. omega arith)

pub returns-then-not-specials_within : goal.returns-then-not-specials_within
returns-then-not-specials_within c =
    bad_specials (omega arith) c.if-not-seed_within.ensures (omega arith) (omega arith) c.if-not-specials_within.ensures
