use Rattle.std.proofs.Common.{◌≡◌, ◌++◌, take, codes, flat_map, string_bytes}
use Rattle.text_faults.specs.Kinds.{kind_name, kinds_of}
use Rattle.text_faults.proofs.texts.names_text.Given as goal

abbrev pub invariant-loop-kind : goal.invariant-loop-kind
invariant-loop-kind l =
    string_bytes l.text ≡ codes "one of:" ++ flat_map (λ kind. codes " " ++ kind_name kind) (take l.kind-index (kinds_of l.fn.group))
