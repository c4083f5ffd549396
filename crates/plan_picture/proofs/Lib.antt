mod Counting
mod Parts
mod Places
mod Promises
mod Ranges
mod Reading
mod Standing
mod Told
