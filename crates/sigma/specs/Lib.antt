-- In document 01's order: the weights, the draw, the anchored mean, the spread, the prediction.
pub mod Weights
pub mod Draw
pub mod Mean
pub mod Spread
pub mod Predict
