-- Objects, from the events of their members.
use Rattle.std.proofs.Common.{ℕ, List, Some}
use Rattle.serde.specs.Event.{Log, Logs, field_key, map_begins, map_ends}
use Rattle.serde.specs.declared.name.Case.TheVariants.{AsIs}
use Rattle.serde_json.specs.Data.{Data, object, Members, no_members, member}
use Rattle.serde_json.specs.Events.{SendsValue}
use Rattle.json_out.specs.Sending.{AddsMember}

-- a member is its key and its value
pub adds : (key : List ℕ) (value : Data) (old named new : Log) → Logs old named (field_key key AsIs) → SendsValue value named new → AddsMember key value old new
adds key value old named new keyed sent = record { adds = λ rest end behind. (named, new, keyed, sent, behind) }

pub three : (k l m : List ℕ) (v w x : Data) (old begun a b c new : Log) → Logs old begun (map_begins (Some 3)) → AddsMember k v begun a → AddsMember l w a b → AddsMember m x b c → Logs c new map_ends → SendsValue (object (member k v (member l w (member m x no_members)))) old new
three k l m v w x old begun a b c new begins first second third ends =
    let from_m : Members = member m x no_members in
    let from_l : Members = member l w from_m in
    (begun, begins, first.adds from_l new (second.adds from_m new (third.adds no_members new ends)))

pub four : (k l m n : List ℕ) (v w x y : Data) (old begun a b c d new : Log) → Logs old begun (map_begins (Some 4)) → AddsMember k v begun a → AddsMember l w a b → AddsMember m x b c → AddsMember n y c d → Logs d new map_ends → SendsValue (object (member k v (member l w (member m x (member n y no_members))))) old new
four k l m n v w x y old begun a b c d new begins first second third fourth ends =
    let from_n : Members = member n y no_members in
    let from_m : Members = member m x from_n in
    let from_l : Members = member l w from_m in
    (begun, begins, first.adds from_l new (second.adds from_m new (third.adds from_n new (fourth.adds no_members new ends))))

pub five : (k l m n o : List ℕ) (v w x y z : Data) (old begun a b c d e new : Log) → Logs old begun (map_begins (Some 5)) → AddsMember k v begun a → AddsMember l w a b → AddsMember m x b c → AddsMember n y c d → AddsMember o z d e → Logs e new map_ends → SendsValue (object (member k v (member l w (member m x (member n y (member o z no_members)))))) old new
five k l m n o v w x y z old begun a b c d e new begins first second third fourth fifth ends =
    let from_o : Members = member o z no_members in
    let from_n : Members = member n y from_o in
    let from_m : Members = member m x from_n in
    let from_l : Members = member l w from_m in
    (begun, begins, first.adds from_l new (second.adds from_m new (third.adds from_n new (fourth.adds from_o new (fifth.adds no_members new ends)))))
