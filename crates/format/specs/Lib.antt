pub mod Truth
pub mod Header
pub mod Kinds
pub mod Table
pub mod KindRules
pub mod Limits
pub mod Nodes
pub mod NodesOfWords
