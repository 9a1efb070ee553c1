mod Sessions
mod Right
mod Traces
mod Single
mod Room
