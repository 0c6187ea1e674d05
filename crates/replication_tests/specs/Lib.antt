pub mod WrongAnswers
