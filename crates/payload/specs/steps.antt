-- What the steps of a search leave, how short its prefixes may be, and what the nodes of a trie are seen as, which no
-- public clause speaks of.
pub mod Branch
pub mod Search
pub mod Shortest
pub mod Shrinks
pub mod Skipped
pub mod Tree
pub mod Trie
