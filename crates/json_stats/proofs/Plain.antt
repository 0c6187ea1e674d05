-- What is told of MAPs and of flows has no fraction, and hardly nests.
use Rattle.std.proofs.Common.{ℕ, ◌/◌, ◌%◌, ◌^◌, ◌==◌, ◌≤◌, true, false, cond, List, codes, arith}
use Rattle.serde_json.specs.Data.{Members, no_members, object, depth}
use Rattle.json_outputs.specs.Fields.{with_text, with_time}
use Rattle.json_outputs.specs.Texts.{IsPlain}
use Rattle.json_outputs.proofs.Callers.{AreSmall, none_small, object_small, with_number_small, with_text_small}
use Rattle.json_outputs.proofs.Callers.{with_time_small}
use Rattle.map_stats.specs.declared.tally.Tally.{Tally}
use Rattle.map_stats.specs.declared.summary.Delays.{Delays}
use Rattle.map_stats.specs.declared.summary.Summary.{Summary}
use Rattle.map_stats.specs.declared.summary.Waits.{Waits}
use Rattle.map_stats.specs.FlowTexts.{how_many, gone, fraction}
use Rattle.plan_account.specs.WhyTexts.{why_name}
use Rattle.json_stats.specs.Tallies.{map_data, use_data, sid_data, with_first}
use Rattle.json_stats.specs.Flows.{flow_members, requests_data, delays_data, waits_data, windows_data}

object_plain : (ms : Members) → AreSmall 0 ms → IsPlain (object ms)
object_plain ms xs =
    let all = object_small 0 ms xs in
    let below : depth (object ms) ≤ 1 = all.shallow in
    (all.whole, omega arith)

row_small : (row : List ℕ) → AreSmall 0 (with_text (codes "row") row no_members)
row_small row = with_text_small 0 (codes "row") row no_members (none_small 0)

first_small : (since : ℕ) (ms : Members) → AreSmall 0 ms → AreSmall 0 (with_first since ms)
first_small since ms small =
    elim (since == 0) as (λ b. AreSmall 0 (cond b ms (with_time (codes "first") since ms))) [
      | true ↦ small
      | false ↦ with_time_small 0 (codes "first") since ms small
    ]

pub map_plain : (key : ℕ) (t : Tally) → IsPlain (map_data key t)
map_plain key t =
    object_plain _ (with_number_small 0 (codes "minislots") t.minislots _ (with_number_small 0 (codes "maps") t.count _
    (with_number_small 0 (codes "channel") key _ (row_small (codes "channel")))))

pub use_plain : (key : ℕ) (t : Tally) (whole : ℕ) → IsPlain (use_data key t whole)
use_plain key t whole =
    object_plain _ (with_number_small 0 (codes "of") whole _ (with_number_small 0 (codes "minislots") t.minislots _
    (with_number_small 0 (codes "intervals") t.count _ (with_number_small 0 (codes "iuc") (key % 16) _
    (with_number_small 0 (codes "channel") (key / 16) _ (row_small (codes "use")))))))

pub sid_plain : (key : ℕ) (t : Tally) → IsPlain (sid_data key t)
sid_plain key t =
    object_plain _ (with_number_small 0 (codes "minislots") t.minislots _ (with_number_small 0 (codes "grants") t.count _
    (with_number_small 0 (codes "iuc") (key % 16) _ (first_small (key / 2 ^ 4 % 2 ^ 64) _
    (with_number_small 0 (codes "sid") (key / 2 ^ 68 % 2 ^ 14) _ (with_number_small 0 (codes "channel") (key / 2 ^ 82) _
    (row_small (codes "sid"))))))))

flow_small : (row : List ℕ) (key : ℕ) → AreSmall 0 (flow_members row key)
flow_small row lease =
    first_small (lease % 2 ^ 64) _ (with_number_small 0 (codes "sid") (lease / 2 ^ 64 % 2 ^ 16) _ (with_number_small 0 (codes "channel") (lease / 2 ^ 80) _ (row_small row)))

pub requests_plain : (key : ℕ) (s : Summary) → IsPlain (requests_data key s)
requests_plain key s =
    object_plain _ (with_number_small 0 (codes "gone") (gone s) _ (with_number_small 0 (codes "waiting") (how_many s.waits) _
    (with_number_small 0 (codes "granted") s.delays.count _ (with_number_small 0 (codes "requests") s.asked _ (flow_small (codes "requests") key)))))

pub delays_plain : (key : ℕ) (d : Delays) → IsPlain (delays_data key d)
delays_plain key d =
    object_plain _ (with_time_small 0 (codes "longest") d.longest _ (with_time_small 0 (codes "p99") d.most _
    (with_text_small 0 (codes "mean") (fraction d.sum d.count) _ (flow_small (codes "delay") key))))

pub waits_plain : (key : ℕ) (w : Waits) → IsPlain (waits_data key w)
waits_plain key w =
    object_plain _ (with_text_small 0 (codes "why") (why_name w.why) _ (with_time_small 0 (codes "sent") w.sent _
    (with_number_small 0 (codes "minislots") w.n _ (flow_small (codes "waits") key))))

pub windows_plain : (key : ℕ) (s : Summary) → IsPlain (windows_data key s)
windows_plain key s =
    object_plain _ (with_number_small 0 (codes "missed") s.missed _ (with_number_small 0 (codes "windows") s.windows _ (flow_small (codes "windows") key)))
