-- An input makes the calls of its lines: the record after it is what the list of these calls leaves, and their arguments are those that the types of
-- the code can hold. Assumes nothing.
use Prim.Native.Nat.{ℕ, zero, suc, ◌<◌}
use mathlib.Core.Path.{◌≡◌, refl, sym, ap, ◌∙◌}
use mathlib.Core.Option.{Option, none, some}
use mathlib.Core.Bool.{Bool, true, false, ◌&&◌}
use mathlib.Core.List.{List, [], ◌∷◌, ◌++◌, map}
use native.Mathlib.Omega.{arith}
use lib.Dec.{T, ltb, ltb→lt}
use Rattle.base.proofs.Tests.{and-fst, and-snd}
use Rattle.graph.specs.Side.{Side, left, right, side_number}
use Rattle.graph.specs.Vector.{width}
use Rattle.protocol.specs.Message.{Msg, Name, name_of, bit_number, meet, probe, pull, going, seek, found, none_found}
use Rattle.protocol.specs.Numbering.{exists}
use Rattle.protocol.specs.Order.{smallest}
use Rattle.protocol.specs.Calls.{Call, unless_refused}
use Rattle.protocol.specs.Calls.{deliver as delivering}
use Rattle.protocol.specs.Bundle.{one, onward, bundle_of, left_by, spread}
use Rattle.protocol.specs.Run.{Standing, step, steps, steps_from}
use Rattle.protocol.proofs.Smallest.{smallest-all}
use Rattle.record.specs.Layout.{seats}
use Rattle.record.specs.Meaning.{meaning}
use Rattle.record.specs.Reading.{open_bytes, record_refusal}
use Rattle.record.specs.Call.{called}
use Rattle.record.specs.Bundle.{bundle_in, bundled}
use Rattle.runs.specs.Typed.{Typed, AllTyped}
use Rattle.runs.specs.Run.{bytes_run, list_run}
use Rattle.command.specs.Command.{Command, join, leave, deliver, turn, settle, find, print, parsed}
use Rattle.command.specs.Text.{fits}
use Rattle.command.proofs.Text.{text-parsed}
use Rattle.program.specs.Line.{settle_limit, settled, answer_to, answered}
use Rattle.program.specs.Input.{lines_of, carried_out}
use Rattle.inputs.specs.Made.{calls_of, calls_in}

-- what calls leave, one after the other
unfoldable pub left_calls : (l : List ℕ) → List Call → List ℕ
left_calls l [] = l
left_calls l (c ∷ cs) = left_calls (called l c).after cs

left-append : (l : List ℕ) (cs ds : List Call) → left_calls l (cs ++ ds) ≡ left_calls (left_calls l cs) ds
unfolding left_calls
left-append l [] ds = refl
left-append l (c ∷ cs) ds = left-append (called l c).after cs ds

left-deliveries : (l : List ℕ) (ns : List Name) → left_calls l (map delivering ns) ≡ left_by called l ns
unfolding left_calls left_by
left-deliveries l [] = refl
left-deliveries l (n ∷ ns) = left-deliveries (called l (delivering n)).after ns

-- the run of a list without bundles
spread-calls : (l : List ℕ) (cs : List Call) → spread called bundle_in (λ c. c) l (map one cs) ≡ cs
unfolding spread
spread-calls l [] = refl
spread-calls l (c ∷ cs) = ap (λ (ds : List Call). c ∷ ds) (spread-calls (called l c).after cs)

steps-now : (s : Standing (List ℕ)) (cs : List Call) → (steps called s cs).now ≡ left_calls s.now cs
unfolding steps step left_calls
steps-now s [] = refl
steps-now s (c ∷ cs) = steps-now (step called s c) cs

pub run-calls : (l : List ℕ) (cs : List Call) → list_run l (map one cs) ≡ bytes_run l cs
unfolding list_run
run-calls l cs = ap (bytes_run l) (spread-calls (open_bytes l) cs)

run-left : (l : List ℕ) (cs : List Call) → (list_run l (map one cs)).now ≡ left_calls (open_bytes l) cs
unfolding bytes_run steps_from
run-left l cs = ap (λ (s : Standing (List ℕ)). s.now) (run-calls l cs) ∙ steps-now _ cs

-- a line leaves what its calls leave
command-left : (l : List ℕ) (o : Option Command) → (answer_to l o).after ≡ left_calls l (calls_of l o)
unfolding answer_to calls_of left_calls settled bundled
command-left l none = refl
command-left l (some (join s n v c)) = refl
command-left l (some (leave s)) = refl
command-left l (some (deliver k t a v d)) = refl
command-left l (some turn) = refl
command-left l (some settle) = sym (left-deliveries l (bundle_in l settle_limit))
command-left l (some (find s n)) = refl
command-left l (some print) = refl

lines_left : (l : List ℕ) (lines : List (List ℕ)) → (carried_out l lines).after ≡ left_calls l (calls_in l lines)
unfolding carried_out calls_in left_calls answered
lines_left l [] = refl
lines_left l (line ∷ lines) =
    let a = (answered l line).after in
    lines_left a lines ∙ ap (λ (m : List ℕ). left_calls m (calls_in a lines)) (command-left l (parsed line))
    ∙ sym (left-append l (calls_of l (parsed line)) (calls_in a lines))

-- THE RECORD AFTER AN INPUT IS THAT OF A LIST OF CALLS
pub input-made : (l input : List ℕ)
    → (carried_out (open_bytes l) (lines_of input)).after ≡ (list_run l (map one (calls_in (open_bytes l) (lines_of input)))).now
input-made l input = lines_left (open_bytes l) (lines_of input) ∙ sym (run-left l (calls_in (open_bytes l) (lines_of input)))

-- the five numbers of a message that exists are bytes
below : (a n : ℕ) → T (ltb a n) → n < 256 → a < 256
below a n t h = let l = ltb→lt a n t in omega arith

two-below : (t l n : ℕ) → T (ltb t seats && ltb l n) → n < 256 → (t < 256) × (l < 256)
two-below t l n x h =
    (below t seats (and-fst (ltb t seats) (ltb l n) x) (omega arith), below l n (and-snd (ltb t seats) (ltb l n) x) h)

three-below : (t a l n : ℕ) → T (ltb t seats && (ltb a seats && ltb l n)) → n < 256 → (t < 256) × (a < 256) × (l < 256)
three-below t a l n x h =
    let r = two-below a l n (and-snd (ltb t seats) (ltb a seats && ltb l n) x) h in
    (below t seats (and-fst (ltb t seats) (ltb a seats && ltb l n) x) (omega arith), r.0, r.1)

side-below : (d : Side) → side_number d < 256
side-below left = omega arith
side-below right = omega arith

bit_below : (b : Bool) → bit_number b < 256
bit_below true = omega arith
bit_below false = omega arith

name_typed : (m : Msg) → T (exists seats width m) → Typed (delivering (name_of m))
unfolding exists
name_typed (meet t a l) x = let r = three-below t a l (suc width) x (omega arith) in (omega arith, r.0, r.1, r.2, omega arith)
name_typed (probe t a l) x = let r = three-below t a l width x (omega arith) in (omega arith, r.0, r.1, r.2, omega arith)
name_typed (pull t b l d) x = let r = two-below t l width x (omega arith) in (omega arith, r.0, bit_below b, r.1, side-below d)
name_typed (going t l d) x = let r = two-below t l (suc width) x (omega arith) in (omega arith, r.0, omega arith, r.1, side-below d)
name_typed (seek t a l) x = let r = three-below t a l (suc width) x (omega arith) in (omega arith, r.0, r.1, r.2, omega arith)
name_typed (found t a l) x = let r = three-below t a l (suc width) x (omega arith) in (omega arith, r.0, r.1, r.2, omega arith)
name_typed (none_found t l d) x = let r = two-below t l (suc width) x (omega arith) in (omega arith, r.0, omega arith, r.1, side-below d)

-- lists of calls
typed-append : (cs ds : List Call) → AllTyped (map one cs) → AllTyped (map one ds) → AllTyped (map one (cs ++ ds))
typed-append [] ds t u = u
typed-append (c ∷ cs) ds t u = (t.0, typed-append cs ds t.1 u)

bundle-typed : (n : ℕ) (l : List ℕ) → AllTyped (map one (map delivering (bundle_of called seats width (λ k. (meaning k).pending) n l)))
unfolding bundle_of onward
bundle-typed zero l = tt
bundle-typed (suc n) l = by (smallest seats width (meaning l).pending) refl (λ m. bundle-typed n (called l (delivering (name_of m))).after)
  where
    rest : Msg → List Name
    rest m = name_of m ∷ bundle_of called seats width (λ k. (meaning k).pending) n (called l (delivering (name_of m))).after

    by : (o : Option Msg) → smallest seats width (meaning l).pending ≡ o
        → ((m : Msg) → AllTyped (map one (map delivering
        (bundle_of called seats width (λ k. (meaning k).pending) n (called l (delivering (name_of m))).after))))
        → AllTyped (map one (map delivering (onward o rest)))
    by none e ih = tt
    by (some m) e ih = (name_typed m ((smallest-all seats width (meaning l).pending m).0 e).there, ih m)

settle-typed : (l : List ℕ) → AllTyped (map one (map delivering (bundle_in l settle_limit)))
unfolding bundle_in unless_refused
settle-typed l = by (record_refusal l)
  where
    by : (r : ℕ) → AllTyped (map one (map delivering (unless_refused r [] (bundle_of called seats width (λ k. (meaning k).pending) settle_limit l))))
    by zero = bundle-typed settle_limit l
    by (suc r) = tt

command-typed : (l : List ℕ) (o : Option Command) → ((c : Command) → o ≡ some c → fits c) → AllTyped (map one (calls_of l o))
unfolding calls_of
command-typed l none f = tt
command-typed l (some (join s n v c)) f = (f (join s n v c) refl, tt)
command-typed l (some (leave s)) f = (f (leave s) refl, tt)
command-typed l (some (deliver k t a v d)) f = (f (deliver k t a v d) refl, tt)
command-typed l (some turn) f = (tt, tt)
command-typed l (some settle) f = settle-typed l
command-typed l (some (find s n)) f = tt
command-typed l (some print) f = tt

pub calls-typed : (l : List ℕ) (lines : List (List ℕ)) → AllTyped (map one (calls_in l lines))
unfolding calls_in
calls-typed l [] = tt
calls-typed l (line ∷ lines) =
    typed-append (calls_of l (parsed line)) (calls_in (answered l line).after lines)
    (command-typed l (parsed line) (λ c e. (text-parsed line c e).1)) (calls-typed (answered l line).after lines)
