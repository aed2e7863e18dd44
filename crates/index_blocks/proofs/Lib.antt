mod Read
mod Short
