-- Outputs as text. Numbers are decimal, and bytes are hexadecimal in lower case without spaces.
use Rattle.std.specs.Prelude.{ℕ, ◌==◌, ◌&&◌, if◌then◌else◌, List, [], ◌++◌, codes, decimal}
use Rattle.hex.specs.Hex.{encode_lower}
use Rattle.flow_state.specs.Limits.{last_time}
use Rattle.grant_machine.specs.declared.output.Output.{Output}
use Rattle.grant_machine.specs.declared.output.Output.TheVariants.{Nothing, ChannelSet, Assigned, Map, Refused}

-- a lease behind its SID: nothing where it is of every minislot up to the last time
abbrev pub lease_text : ℕ → ℕ → List ℕ
lease_text first last = if (first == 0) && (last == last_time) then [] else codes " first " ++ (decimal first ++ (codes " last " ++ decimal last))

-- an output
abbrev pub output_text : Output → List ℕ
output_text Nothing = codes "nothing"
output_text (ChannelSet ch ucd) = codes "channel " ++ (decimal ch ++ (codes " ucd " ++ decimal ucd))
output_text (Assigned modem ch sid first last) =
    codes "assigned modem " ++ (decimal modem ++ (codes " channel " ++ (decimal ch ++ (codes " sid " ++ (decimal sid ++ lease_text first last)))))
output_text (Map ch start len bytes) =
    codes "map channel " ++ (decimal ch ++ (codes " start " ++ (decimal start ++ (codes " len " ++ (decimal len ++ (codes " " ++ encode_lower bytes))))))
output_text (Refused number) = codes "refused " ++ decimal number
