pub mod AcceptedLaws
pub mod TellLaws
pub mod HearLaws
pub mod ReplyLaws
pub mod AnswerLaws
mod FaultLaws
