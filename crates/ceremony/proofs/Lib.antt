mod Stopping
mod Committing
