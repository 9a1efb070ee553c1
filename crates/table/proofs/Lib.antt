mod Lawful
mod Made
mod Records
mod Sound
mod Tables
