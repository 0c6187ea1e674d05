-- Structs with numbered fields.
use Rattle.std.specs.Prelude.{[], ◌∷◌, replicate}
use Rattle.upsched_c_node.specs.declared.letter_fields.VoteFields.{VoteFields}
use Rattle.upsched_c_node.specs.declared.samples.NodeSamples.{NodeSamples}

abbrev pub vote : VoteFields
vote = record { place = 1; ballot = 2; value_len = 3; value = replicate 64 4 }

-- the fields of each struct, numbered from 1 in their order; each byte of an array has its field's number
abbrev pub numbered : NodeSamples
numbered = record {
  write = record { kind = 1; node = 2; value_len = 3; ballot = replicate 8 4; place = replicate 8 5; value = replicate 64 6 };
  letter = record { ballot = 1; place = 2; kind = 3; from = 4; to = 5; value_len = 6; value = replicate 64 7 };
  votes = vote ∷ vote ∷ [];
}
