pub mod DictionaryKeys
pub mod DictionaryNodes
pub mod DictionaryParts
pub mod DictionaryReads
pub mod UnionNodes
pub mod Unions
