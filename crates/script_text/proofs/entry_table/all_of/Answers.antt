use Rattle.script_text.proofs.entry_table.all_of.Goals as goal

pub returns-in_default-clause-none : goal.returns-in_default-clause-none
returns-in_default-clause-none c = λ none all h. let found = c.in_default.ensures.only all.rounds h.rounds in cc
