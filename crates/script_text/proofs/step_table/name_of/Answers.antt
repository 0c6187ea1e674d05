use Rattle.script_text.proofs.step_table.name_of.Goals as goal

pub returns-in_err-name-clause-only : goal.returns-in_err-name-clause-only
returns-in_err-name-clause-only c = λ name h. let found = c.in_err-name.ensures.only name h.0 in cc

pub returns-then-names_letter-clause-only : goal.returns-then-names_letter-clause-only
returns-then-names_letter-clause-only c = λ name h. let found = c.in_ok-name.ensures.only name h.0 in cc
