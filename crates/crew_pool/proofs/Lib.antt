mod Slots
mod Pairs
mod DequeRule
mod PlaceLaws
mod Taken
mod Moves
mod SeatsAfterSteps
