mod WrongAnswers
