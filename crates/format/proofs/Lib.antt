pub mod Header
pub mod KindRules
pub mod NodesOfWords
