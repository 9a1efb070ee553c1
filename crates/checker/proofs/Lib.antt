mod Longest
mod Ending
