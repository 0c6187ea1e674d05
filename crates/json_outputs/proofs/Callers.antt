-- What is said as JSON has no fraction, and hardly nests. Crates above cite it of what they say more.
use Rattle.std.proofs.Common.{◌≡◌, ℕ, suc, ◌≤◌, max, ◌||◌, Bool, true, false, List, [], ◌∷◌, codes, decimal, inl, inr}
use Rattle.std.proofs.Common.{if◌then◌else◌, refl, arith}
use Rattle.std.proofs.lemmas.Bool.{true≢false}
use Rattle.std.proofs.Math.Nat.{max-le, le-max_left, le-max_right}
use Rattle.std.specs.Ordering.{nat_cmp, match_ordering}
use Rattle.std.specs.declared.cmp.Ordering.{Ordering}
use Rattle.std.specs.declared.cmp.Ordering.TheVariants.{Less, Equal, Greater}
use Rattle.std.specs.Cmp.Lexicographic.{slice_cmp}
use Rattle.hex.specs.Hex.{encode_lower}
use Rattle.map_body.specs.declared.element.Element.{Element}
use Rattle.map_body.specs.Body.{Body}
use Rattle.map_body.specs.Intervals.{is_null}
use Rattle.grant_machine.specs.declared.output.Output.{Output}
use Rattle.grant_machine.specs.declared.output.Output.TheVariants.{Nothing, ChannelSet, Assigned, Map, Refused}
use Rattle.serde_json.specs.Data.{Data, null, number, unsigned, string, object, Members, no_members, member, put, depth}
use Rattle.serde_json.specs.Data.{items_depth, members_depth}
use Rattle.serde_json.specs.View.{items_of}
use Rattle.serde_json.specs.Written.{has_float, items_have_float, members_have_float}
use Rattle.json_outputs.specs.Names.{refusal_name}
use Rattle.map_body.specs.Iucs.{iuc_name}
use Rattle.json_outputs.specs.Fields.{with_number, with_text, with_time}
use Rattle.json_outputs.specs.Elements.{element_data, elements_from, elements_data, gap, head_members, body_data}
use Rattle.json_outputs.specs.Outputs.{TellsElements, TellsOutput}
use Rattle.json_outputs.specs.Texts.{IsPlain}

-- no fraction, and no deeper than this
pub record Small (k : ℕ) (d : Data) : Type 0 where
  pub whole : has_float d ≡ false
  pub shallow : depth d ≤ k

pub record AreSmall (k : ℕ) (ms : Members) : Type 0 where
  pub whole : members_have_float ms ≡ false
  pub shallow : members_depth ms ≤ k

pub both : (a b : Bool) → a ≡ false → b ≡ false → (a || b) ≡ false
both true b h i = h
both false b h i = i

first : (a b : Bool) → (a || b) ≡ false → a ≡ false
first true b h = h
first false b h = refl

second : (a b : Bool) → (a || b) ≡ false → b ≡ false
second true b h = absurd (true≢false h)
second false b h = h

one_more : (k : ℕ) (key : List ℕ) (d : Data) (ms : Members) → Small k d → AreSmall k ms → AreSmall k (member key d ms)
one_more k key d ms x xs = record { whole = both (has_float d) (members_have_float ms) x.whole xs.whole; shallow = max-le x.shallow xs.shallow }

head_small : (k : ℕ) (key : List ℕ) (d : Data) (ms : Members) → AreSmall k (member key d ms) → Small k d
head_small k key d ms xs = record {
  whole = first (has_float d) (members_have_float ms) xs.whole;
  shallow = let left = le-max_left (depth d) (members_depth ms) in let all : max (depth d) (members_depth ms) ≤ k = xs.shallow in omega arith;
}

rest_small : (k : ℕ) (key : List ℕ) (d : Data) (ms : Members) → AreSmall k (member key d ms) → AreSmall k ms
rest_small k key d ms xs = record {
  whole = second (has_float d) (members_have_float ms) xs.whole;
  shallow = let right = le-max_right (depth d) (members_depth ms) in let all : max (depth d) (members_depth ms) ≤ k = xs.shallow in omega arith;
}

in_each : (P : Members → Type 0) (o : Ordering) (a b c : Members) → P a → P b → P c → P (match_ordering o a b c)
in_each P Less a b c x y z = x
in_each P Equal a b c x y z = y
in_each P Greater a b c x y z = z

-- a field more
pub field_small : (k : ℕ) (key : List ℕ) (d : Data) (ms : Members) → Small k d → AreSmall k ms → AreSmall k (put key d ms)
field_small k key d no_members x xs = one_more k key d no_members x xs
field_small k key d (member l e ms) x xs =
    in_each (AreSmall k) (slice_cmp nat_cmp key l) (member key d (member l e ms)) (member l d ms) (member l e (put key d ms))
    (one_more k key d (member l e ms) x xs)
    (one_more k l d ms x (rest_small k l e ms xs))
    (one_more k l e (put key d ms) (head_small k l e ms xs) (field_small k key d ms x (rest_small k l e ms xs)))

pub none_small : (k : ℕ) → AreSmall k no_members
none_small k = record { whole = refl; shallow = omega arith }

pub with_number_small : (k : ℕ) (key : List ℕ) (n : ℕ) (ms : Members) → AreSmall k ms → AreSmall k (with_number key n ms)
with_number_small k key n ms xs = field_small k key (number (unsigned n)) ms (record { whole = refl; shallow = omega arith }) xs

pub with_text_small : (k : ℕ) (key s : List ℕ) (ms : Members) → AreSmall k ms → AreSmall k (with_text key s ms)
with_text_small k key s ms xs = field_small k key (string s) ms (record { whole = refl; shallow = omega arith }) xs

pub with_time_small : (k : ℕ) (key : List ℕ) (n : ℕ) (ms : Members) → AreSmall k ms → AreSmall k (with_time key n ms)
with_time_small k key n ms xs = field_small k key (string (decimal n)) ms (record { whole = refl; shallow = omega arith }) xs

pub object_small : (k : ℕ) (ms : Members) → AreSmall k ms → Small (suc k) (object ms)
object_small k ms xs = record { whole = xs.whole; shallow = let below : members_depth ms ≤ k = xs.shallow in omega arith }

element_small : (e : Element) (m : ℕ) → Small 1 (element_data e m)
element_small e m =
    object_small 0 _ (with_text_small 0 (codes "name") (iuc_name e.iuc) _ (with_number_small 0 (codes "iuc") e.iuc _
    (with_number_small 0 (codes "sid") e.sid _ (with_number_small 0 (codes "minislots") m _ (with_number_small 0 (codes "offset") e.offset _ (none_small 0))))))

elements_whole : (behind : Bool) (es : List Element) → items_have_float (items_of (elements_from behind es)) ≡ false
elements_whole behind [] = refl
elements_whole behind (e ∷ es) =
    both _ _ (element_small e (if behind || is_null e then 0 else gap e es)).whole (elements_whole (behind || is_null e) es)

elements_shallow : (behind : Bool) (es : List Element) → items_depth (items_of (elements_from behind es)) ≤ 1
elements_shallow behind [] = omega arith
elements_shallow behind (e ∷ es) =
    max-le (element_small e (if behind || is_null e then 0 else gap e es)).shallow (elements_shallow (behind || is_null e) es)

elements_small : (es : List Element) → Small 2 (elements_data es)
elements_small es = record { whole = elements_whole false es; shallow = let below = elements_shallow false es in omega arith }

null_small : Small 2 null
null_small = record { whole = refl; shallow = omega arith }

told_small : (bytes : List ℕ) (d : Data) → TellsElements bytes d → Small 2 d
told_small bytes d (inl told) = rw told.2 (elements_small told.0.elements)
told_small bytes d (inr none) = rw none.1 null_small

-- the fields of an output
pub output_small : (o : Output) (old new : Members) → TellsOutput o old new → AreSmall 2 old → AreSmall 2 new
output_small Nothing old new told xs = rw told (with_text_small 2 (codes "output") (codes "nothing") old xs)
output_small (ChannelSet ch ucd) old new told xs =
    rw told (with_number_small 2 (codes "ucd") ucd _ (with_number_small 2 (codes "channel") ch _ (with_text_small 2 (codes "output") (codes "channel") old xs)))
output_small (Assigned modem ch sid from to) old new told xs =
    rw told (with_time_small 2 (codes "last") to _ (with_time_small 2 (codes "first") from _ (with_number_small 2 (codes "sid") sid _
    (with_number_small 2 (codes "channel") ch _ (with_number_small 2 (codes "modem") modem _ (with_text_small 2 (codes "output") (codes "assigned") old xs))))))
output_small (Map ch start len bytes) old new (elements, shown, told) xs =
    rw told (field_small 2 (codes "elements") elements _ (told_small bytes elements shown) (with_text_small 2 (codes "bytes") (encode_lower bytes) _
    (with_number_small 2 (codes "len") len _ (with_time_small 2 (codes "start") start _
    (with_number_small 2 (codes "channel") ch _ (with_text_small 2 (codes "output") (codes "map") old xs))))))
output_small (Refused n) old new told xs =
    rw told (with_text_small 2 (codes "name") (refusal_name n) _ (with_number_small 2 (codes "refusal") n _ (with_text_small 2 (codes "output") (codes "refused") old xs)))

-- what is said of a command, and of a body
pub command_plain : (n : ℕ) (o : Output) (new : Members) → TellsOutput o (with_number (codes "command") n no_members) new → IsPlain (object new)
command_plain n o new told =
    let fields = output_small o (with_number (codes "command") n no_members) new told (with_number_small 2 (codes "command") n no_members (none_small 2)) in
    let below : members_depth new ≤ 2 = fields.shallow in
    (fields.whole, omega arith)

body_small : (map : Body) → Small 3 (body_data map)
body_small map =
    object_small 2 _ (field_small 2 (codes "elements") (elements_data map.elements) (head_members map) (elements_small map.elements)
    (with_number_small 2 (codes "data_end") map.head.data_backoff.1 _ (with_number_small 2 (codes "data_start") map.head.data_backoff.0 _
    (with_number_small 2 (codes "ranging_end") map.head.ranging_backoff.1 _ (with_number_small 2 (codes "ranging_start") map.head.ranging_backoff.0 _
    (with_time_small 2 (codes "ack") map.head.ack _ (with_time_small 2 (codes "start") map.head.start _
    (with_number_small 2 (codes "ucd") map.head.ucd _ (with_number_small 2 (codes "channel") map.head.channel _ (none_small 2))))))))))

pub body_plain : (map : Body) → IsPlain (body_data map)
body_plain map = let small = body_small map in let below = small.shallow in (small.whole, omega arith)
