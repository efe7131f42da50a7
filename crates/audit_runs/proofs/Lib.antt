pub mod LikeLaws
pub mod TakingLaws
pub mod TextLaws
pub mod PuttingLaws
pub mod AnswerLaws
pub mod AuditLaws
