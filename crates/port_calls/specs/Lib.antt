pub mod PortCalls
pub mod Answering
pub mod AnswerLaws
