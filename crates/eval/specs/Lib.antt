pub mod Answers
pub mod AnswerLaws
pub mod EvaluatedLaws
pub mod Chunks
