-- How a stage in memory keeps its events.
use Rattle.std.proofs.Common.{◌≡◌, ℕ, ◌+◌, ◌<◌, List, [], ◌∷◌, ◌++◌, length, map, reverse, drop, refl, sym, ◌∙◌, ap, subst, arith, Option, Some, None, option_to_list, IsSome, ◌↔◌, append_assoc}
use Rattle.std.proofs.lemmas.List.{append-nil, reverse-append, length_push}
use Rattle.cckd_memory.specs.declared.op.Op.{Op}
use Rattle.cckd_memory.specs.declared.op.Op.TheVariants as op
use Rattle.cckd_memory.specs.declared.history.Note.{Note}
use Rattle.cckd_memory.specs.declared.history.Note.TheVariants as note
use Rattle.cckd_shelf.specs.Events.{Event, Written, Torn, Cut, HalfCut, Synced, Put, Bound, ops_of, output_of}
use Rattle.cckd_memory.specs.Ops.{event_of, put_by}
use Rattle.cckd_memory.specs.Inside.{op_count, woven, events_of, IsWritten, IsBack}

pub woven_op : (ns : List Note) (ops : List Op) (o : Op) → op_count ns ≡ length ops → woven (ns ++ note.Op ∷ []) (ops ++ o ∷ []) ≡ woven ns ops ++ event_of o ∷ []
woven_op [] [] o e = refl
woven_op [] (p ∷ os) o e = cc
woven_op (note.Op ∷ ns) [] o e = absurd (omega arith)
woven_op (note.Op ∷ ns) (p ∷ os) o e = ap (λ (x : List Event). event_of p ∷ x) (woven_op ns os o (omega arith))
woven_op (note.Bound s n b ∷ ns) os o e = ap (λ (x : List Event). Bound s n b ∷ x) (woven_op ns os o e)

pub woven_bound : (ns : List Note) (ops : List Op) (s : ℕ) (n b : List ℕ) → op_count ns ≡ length ops
    → woven (ns ++ note.Bound s n b ∷ []) ops ≡ woven ns ops ++ Bound s n b ∷ []
woven_bound [] ops s n b e = refl
woven_bound (note.Op ∷ ns) [] s n b e = absurd (omega arith)
woven_bound (note.Op ∷ ns) (p ∷ os) s n b e = ap (λ (x : List Event). event_of p ∷ x) (woven_bound ns os s n b (omega arith))
woven_bound (note.Bound t m c ∷ ns) os s n b e = ap (λ (x : List Event). Bound t m c ∷ x) (woven_bound ns os s n b e)

-- one event more
pub events_op : (ns : List Note) (ops : List Op) (o : Op) → op_count ns ≡ length ops → events_of (ns ++ note.Op ∷ []) (ops ++ o ∷ []) ≡ event_of o ∷ events_of ns ops
events_op ns ops o e = ap reverse (woven_op ns ops o e) ∙ reverse-append (woven ns ops) (event_of o ∷ [])

pub events_bound : (ns : List Note) (ops : List Op) (s : ℕ) (n b : List ℕ) → op_count ns ≡ length ops
    → events_of (ns ++ note.Bound s n b ∷ []) ops ≡ Bound s n b ∷ events_of ns ops
events_bound ns ops s n b e = ap reverse (woven_bound ns ops s n b e) ∙ reverse-append (woven ns ops) (Bound s n b ∷ [])

pub count_op : (ns : List Note) → op_count (ns ++ note.Op ∷ []) ≡ op_count ns + 1
count_op [] = refl
count_op (note.Op ∷ ns) = omega (arith, count_op ns)
count_op (note.Bound s n b ∷ ns) = count_op ns

pub count_bound : (ns : List Note) (s : ℕ) (n b : List ℕ) → op_count (ns ++ note.Bound s n b ∷ []) ≡ op_count ns
count_bound [] s n b = refl
count_bound (note.Op ∷ ns) s n b = omega (arith, count_bound ns s n b)
count_bound (note.Bound t m c ∷ ns) s n b = count_bound ns s n b

output_op : (o : Op) (es : List Event) → output_of (event_of o ∷ es) ≡ output_of es ++ put_by o
output_op (op.Write s p b) es = sym (append-nil (output_of es))
output_op (op.Torn s p b) es = sym (append-nil (output_of es))
output_op (op.Cut s n) es = sym (append-nil (output_of es))
output_op (op.HalfCut s n) es = sym (append-nil (output_of es))
output_op (op.Sync s) es = sym (append-nil (output_of es))
output_op (op.Put b) es = refl

-- the notes, the operations and the output after an operation
pub written_op : (ns : List Note) (ops : List Op) (out : List ℕ) (o : Op) → IsWritten ns ops out → IsWritten (ns ++ note.Op ∷ []) (ops ++ o ∷ []) (out ++ put_by o)
written_op ns ops out o w = record {
  noted = count_op ns ∙ (ap (λ n. n + 1) w.noted ∙ sym (length_push ops o));
  put = ap (λ x. x ++ put_by o) w.put ∙ (sym (output_op o (events_of ns ops)) ∙ sym (ap output_of (events_op ns ops o w.noted)));
}

pub written_quiet : (ns : List Note) (ops : List Op) (out : List ℕ) (o : Op) → IsWritten ns ops out → put_by o ≡ []
    → IsWritten (ns ++ note.Op ∷ []) (ops ++ o ∷ []) out
written_quiet ns ops out o w e =
    subst (IsWritten (ns ++ note.Op ∷ []) (ops ++ o ∷ [])) (ap (λ x. out ++ x) e ∙ append-nil out) (written_op ns ops out o w)

pub written_bound : (ns : List Note) (ops : List Op) (out : List ℕ) (s : ℕ) (n b : List ℕ) → IsWritten ns ops out
    → IsWritten (ns ++ note.Bound s n b ∷ []) ops out
written_bound ns ops out s n b w = record {
  noted = count_bound ns s n b ∙ w.noted;
  put = w.put ∙ sym (ap output_of (events_bound ns ops s n b w.noted));
}

ops_one : (o : Op) (es : List Event) → ops_of (event_of o ∷ es) ≡ ops_of es ++ event_of o ∷ []
ops_one (op.Write s p b) es = refl
ops_one (op.Torn s p b) es = refl
ops_one (op.Cut s n) es = refl
ops_one (op.HalfCut s n) es = refl
ops_one (op.Sync s) es = refl
ops_one (op.Put b) es = refl

ops_join : (newer older : List Event) → ops_of (newer ++ older) ≡ ops_of older ++ ops_of newer
ops_join [] older = sym (append-nil (ops_of older))
ops_join (Written s p b ∷ newer) older = ap (λ x. x ++ Written s p b ∷ []) (ops_join newer older) ∙ append_assoc (ops_of older) (ops_of newer) (Written s p b ∷ [])
ops_join (Torn s p b ∷ newer) older = ap (λ x. x ++ Torn s p b ∷ []) (ops_join newer older) ∙ append_assoc (ops_of older) (ops_of newer) (Torn s p b ∷ [])
ops_join (Cut s n ∷ newer) older = ap (λ x. x ++ Cut s n ∷ []) (ops_join newer older) ∙ append_assoc (ops_of older) (ops_of newer) (Cut s n ∷ [])
ops_join (HalfCut s n ∷ newer) older = ap (λ x. x ++ HalfCut s n ∷ []) (ops_join newer older) ∙ append_assoc (ops_of older) (ops_of newer) (HalfCut s n ∷ [])
ops_join (Synced s ∷ newer) older = ap (λ x. x ++ Synced s ∷ []) (ops_join newer older) ∙ append_assoc (ops_of older) (ops_of newer) (Synced s ∷ [])
ops_join (Put b ∷ newer) older = ap (λ x. x ++ Put b ∷ []) (ops_join newer older) ∙ append_assoc (ops_of older) (ops_of newer) (Put b ∷ [])
ops_join (Bound s n b ∷ newer) older = ops_join newer older

reverse_cons : (e : Event) (es : List Event) → reverse (e ∷ es) ≡ reverse es ++ e ∷ []
reverse_cons e es = reverse-append (e ∷ []) es

-- the operations that are kept are those of the events
pub ops_kept : (ns : List Note) (ops : List Op) → op_count ns ≡ length ops → ops_of (events_of ns ops) ≡ map event_of ops
ops_kept [] [] e = refl
ops_kept [] (o ∷ os) e = cc
ops_kept (note.Op ∷ ns) [] e = absurd (omega arith)
ops_kept (note.Op ∷ ns) (o ∷ os) e =
    ap ops_of (reverse_cons (event_of o) (woven ns os)) ∙ (ops_join (reverse (woven ns os)) (event_of o ∷ [])
    ∙ (ap (λ (x : List Event). x ++ ops_of (reverse (woven ns os))) (ops_one o []) ∙ ap (λ (x : List Event). event_of o ∷ x) (ops_kept ns os (omega arith))))
ops_kept (note.Bound s n b ∷ ns) os e =
    ap ops_of (reverse_cons (Bound s n b) (woven ns os)) ∙ (ops_join (reverse (woven ns os)) (Bound s n b ∷ []) ∙ ops_kept ns os e)

pub back_op : (ns more : List Note) (ops more_ops : List Op) (popped : Option Op) (n : ℕ) → n ≡ length more_ops → op_count more ≡ length more_ops
    → more ≡ ns ++ note.Op ∷ [] → more_ops ≡ ops ++ option_to_list popped → (IsSome popped ↔ (0 < n)) → IsBack ns ops more more_ops
back_op ns more ops more_ops None n len counted e f some = let h : 0 < n = omega (arith, counted, ap op_count e, count_op ns) in let k : IsSome {T = Op} None = some.1 h in cc
back_op ns more ops more_ops (Some o) n len counted e f some =
    let h : op_count ns ≡ length ops = omega (arith, counted, ap op_count e, count_op ns, ap length f, length_push ops o) in
    record { noted = h; events = sym (ap (λ x. drop 1 (events_of x more_ops)) e ∙ (ap (λ x. drop 1 (events_of (ns ++ note.Op ∷ []) x)) f ∙ ap (drop 1) (events_op ns ops o h))) }

pub back_bound : (ns more : List Note) (ops : List Op) (s : ℕ) (n b : List ℕ) → op_count more ≡ length ops
    → more ≡ ns ++ note.Bound s n b ∷ [] → IsBack ns ops more ops
back_bound ns more ops s n b counted e =
    let h : op_count ns ≡ length ops = omega (arith, counted, ap op_count e, count_bound ns s n b) in
    record { noted = h; events = sym (ap (λ x. drop 1 (events_of x ops)) e ∙ ap (drop 1) (events_bound ns ops s n b h)) }
