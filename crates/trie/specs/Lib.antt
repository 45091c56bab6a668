pub mod Prefixes
pub mod Listed
pub mod Trie
pub mod Promised
pub mod Index
