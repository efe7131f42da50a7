pub mod Lines
pub mod LineLaws
pub mod Certificate
pub mod Audit
pub mod Verify
pub mod Taking
pub mod Answering
pub mod Laws
