mod CallSteps
mod Printed
mod Judged
mod Spelling
