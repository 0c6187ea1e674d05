use Rattle.row_bytes.proofs.Behind.{faulted_none, one_list, read_once, read_spelled, spelled_read}
use Rattle.row_bytes.proofs.laws.one_spelling_of_rows.Goals as goal

pub returns-clause-spelled : goal.returns-clause-spelled
returns-clause-spelled c = spelled_read

pub returns-clause-one : goal.returns-clause-one
returns-clause-one c = one_list

pub returns-clause-read : goal.returns-clause-read
returns-clause-read c = read_spelled

pub returns-clause-none : goal.returns-clause-none
returns-clause-none c = faulted_none

pub returns-clause-once : goal.returns-clause-once
returns-clause-once c = read_once
