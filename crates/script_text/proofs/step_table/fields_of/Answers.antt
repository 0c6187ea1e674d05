use Rattle.script_text.proofs.step_table.fields_of.Goals as goal

pub returns-in_err-again-clause-only : goal.returns-in_err-again-clause-only
returns-in_err-again-clause-only c = λ name h. let found = c.in_err-again.ensures.only name.again h.again in cc

pub returns-clause-only : goal.returns-clause-only
returns-clause-only c = λ name h. let found = c.in_ok-again.ensures.only name.again h.again in c.parts_of.ensures.only name h.parts cc
