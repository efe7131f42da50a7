mod PartLaws
mod StepLaws
