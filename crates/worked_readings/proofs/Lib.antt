mod Started
mod Small
