pub mod Live
pub mod LiveProp
pub mod Step
pub mod Ended
pub mod Ends
pub mod LiveLaws
pub mod Pushed
