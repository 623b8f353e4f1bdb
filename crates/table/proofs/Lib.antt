mod Among
mod Places
