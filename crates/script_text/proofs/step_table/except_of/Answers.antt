use Rattle.script_text.proofs.step_table.except_of.Goals as goal

pub returns-in_err-name-clause-only : goal.returns-in_err-name-clause-only
returns-in_err-name-clause-only c = λ name h. let found = c.in_err-name.ensures.only name h.parts h.once in cc

pub returns-then-says_any-clause-only : goal.returns-then-says_any-clause-only
returns-then-says_any-clause-only c = λ name h. let found = c.in_ok-name.ensures.only name h.parts h.once in cc
