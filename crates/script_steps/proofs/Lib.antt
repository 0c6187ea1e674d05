mod Finding
mod Listed
