-- Laws over plain numbers and lists, which the proofs of the functions cite, and the theorems on the trie.
pub mod Equal
pub mod Nodes
pub mod Growing
pub mod Grown
pub mod Spelling
pub mod Adding
pub mod Walked
pub mod Theorems
pub mod Same
pub mod Indexing
