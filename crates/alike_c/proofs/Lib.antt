mod CallSteps
mod CardSteps
mod CounterSteps
