pub mod Samples
pub mod CertifiedSamples
pub mod SessionSamples
pub mod WindowSamples
pub mod PlanSamples
