pub mod Scan
pub mod Fits
pub mod NodeFields
pub mod GoodNodes
pub mod SizedTrees
pub mod Order
pub mod Lines
pub mod LiveOfChecked
