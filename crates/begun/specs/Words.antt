-- The words of a corpus, and their frequencies. Definitions only.
use Rattle.std.specs.Prelude.{List, map, ℕ}
use Rattle.ranking.specs.Corpus.{Corpus}

-- each word by its characters
abbrev pub words_in : Corpus → List (List ℕ)
words_in corpus = map (λ w. w.0) corpus

abbrev pub frequencies_in : Corpus → List ℕ
frequencies_in corpus = map (λ w. w.1) corpus
