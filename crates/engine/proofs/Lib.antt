mod Turns
mod Nexts
mod Buffers
mod Carrying
mod Promises
