mod LineSteps
mod PromiseSteps
mod SystemExamples
