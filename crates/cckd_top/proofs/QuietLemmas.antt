-- What was served where no call failed: no reply tells a fault, and each is the disk's own.
use Rattle.std.proofs.Common.{◌≡◌, ℕ, ◌+◌, max, cond, ◌||◌, Bool, true, false, List, [], ◌∷◌, ◌++◌, length, map, nat_lt, take, Option, Some, None, Result, Ok, Err, refl, ◌∙◌, ap, subst, arith}
use Rattle.std.specs.List.{AllByRecursion, list_any}
use Rattle.std.proofs.lemmas.Bool.{false≢true}
use Rattle.cckd_base.specs.declared.geometry.Geometry.{Geometry}
use Rattle.cckd_base.specs.declared.call.Call.{Call}
use Rattle.cckd_base.specs.declared.call.Call.TheVariants as call
use Rattle.cckd_shelf.specs.declared.fault.Faults.{Faults}
use Rattle.cckd_shelf.specs.declared.fault.Kind.{Kind}
use Rattle.cckd_shelf.specs.declared.fault.Kind.TheVariants.{Reads, Writes, Syncs, Takes, Puts}
use Rattle.cckd_shelf.specs.Seen.{Seen}
use Rattle.cckd_script.specs.declared.parse.LineFault.{LineFault}
use Rattle.cckd_script.specs.declared.misread.Misreading.TheVariants as misreading
use Rattle.cckd_script.specs.Lines.{line_limit, lines_of, ended_lines}
use Rattle.cckd_script.specs.Parse.{Request, parsed}
use Rattle.cckd_script.specs.Parse as request
use Rattle.cckd_script.specs.Items.{Item, asked, unread, items_of, line_items, items_of_lines, cut_items, script_items}
use Rattle.cckd_stack.specs.Answers.{MayAnswer, takes_memory}
use Rattle.cckd_stack.specs.History.{Entry, History, IsLegal, MaySay, broken_at, broken_with, stack_after}
use Rattle.cckd_stack.specs.Layers.{Stack}
use Rattle.cckd_engine.specs.Calls.{is_served}
use Rattle.cckd_engine.specs.Lines.{history_onto}
use Rattle.cckd_console.specs.Counts.{RoseBy, one_more}
use Rattle.cckd_console.specs.Saying.{SaysCut}
use Rattle.cckd_console.specs.Served.{Served, called, misread, item_in, line_in, told_in, is_told, told_of, faults_told, status_in, worst}
use Rattle.cckd_console.proofs.AskLemmas.{IsFit, IfFit, line_fits}
use Rattle.cckd_top.specs.Unhindered.{AreLow, AreOwnAnswers, refused_in}
use Rattle.cckd_top.proofs.OwnLemmas.{HasStatus, IsQuiet, own_answer, quiet_breaks}

-- ---- counts that stand still

-- no call failed, of which the counts tell
pub record NoneFailed (old new : Faults) : Type 0 where
  pub still : new ≡ old
  pub low : AreLow old

-- of each kind none is told
pub record AreZero (f : Faults) : Type 0 where
  pub reads : f.reads ≡ 0
  pub writes : f.writes ≡ 0
  pub syncs : f.syncs ≡ 0
  pub takes : f.takes ≡ 0
  pub puts : f.puts ≡ 0

pub none_rose : (told old new : Faults) → NoneFailed old new → RoseBy told old new → AreZero told
none_rose told old new none rose = record {
  reads = omega (arith, rose.reads, none.low.reads, ap (λ (f : Faults). f.reads) none.still);
  writes = omega (arith, rose.writes, none.low.writes, ap (λ (f : Faults). f.writes) none.still);
  syncs = omega (arith, rose.syncs, none.low.syncs, ap (λ (f : Faults). f.syncs) none.still);
  takes = omega (arith, rose.takes, none.low.takes, ap (λ (f : Faults). f.takes) none.still);
  puts = omega (arith, rose.puts, none.low.puts, ap (λ (f : Faults). f.puts) none.still);
}

-- no put failed
pub not_cut : (earlier last : List ℕ) (failed : Faults) (old new : Seen) → NoneFailed old.faults new.faults → SaysCut earlier last failed old new → ⊥
not_cut earlier last failed old new none says =
    let zero = none_rose (one_more Puts failed) old.faults new.faults none says.counted in omega (arith, zero.puts)

-- no reply tells a fault
none_told : (told : Option Kind) (rest : Kind → ℕ) → ((kind : Kind) → is_told kind told + rest kind ≡ 0) → told ≡ None
none_told None rest h = refl
none_told (Some Reads) rest h = absurd (omega (arith, h Reads))
none_told (Some Writes) rest h = absurd (omega (arith, h Writes))
none_told (Some Syncs) rest h = absurd (omega (arith, h Syncs))
none_told (Some Takes) rest h = absurd (omega (arith, h Takes))
none_told (Some Puts) rest h = absurd (omega (arith, h Puts))

pub zero_of : (xs : List Served) → AreZero (faults_told xs) → (kind : Kind) → told_of kind xs ≡ 0
zero_of xs zero Reads = zero.reads
zero_of xs zero Writes = zero.writes
zero_of xs zero Syncs = zero.syncs
zero_of xs zero Takes = zero.takes
zero_of xs zero Puts = zero.puts

pub none_in : (xs : List Served) → ((kind : Kind) → told_of kind xs ≡ 0) → AllByRecursion (λ x. told_in x ≡ None) xs
none_in [] h = tt
none_in (x ∷ xs) h = (none_told (told_in x) (λ kind. told_of kind xs) h, none_in xs (λ kind. omega (arith, h kind)))

-- ---- calls that take no memory

pub IsFree : Item → Type 0
IsFree (asked c given) = takes_memory c ≡ false
IsFree (unread why) = Unit {0}

served_free : (c : Call) → is_served c ≡ true → takes_memory c ≡ false
served_free (call.Read at) e = refl
served_free (call.Write at) e = refl
served_free (call.GetRecord at num) e = refl
served_free (call.PutRecord at num) e = refl
served_free call.Harden e = refl
served_free call.Turn e = refl
served_free call.Add e = absurd (false≢true e)
served_free call.Merge e = absurd (false≢true e)
served_free call.Drop e = refl
served_free call.Compress e = refl
served_free call.Display e = refl
served_free (call.Check level) e = refl
served_free call.Close e = refl

free_of : (r : Result Request LineFault) → IfFit r → AllByRecursion IsFree (items_of r)
unfolding IsFree IfFit IsFit
free_of (Ok request.nothing) h = tt
free_of (Ok (request.one c given)) h = (served_free c h.served, tt)
free_of (Ok (request.turns count)) h = absurd h
free_of (Err fault) h = (tt, tt)

free_by : (b : Bool) (items : List Item) → AllByRecursion IsFree items → AllByRecursion IsFree (cond b (unread misreading.LineTooLong ∷ []) items)
unfolding IsFree
free_by true items h = (tt, tt)
free_by false items h = h

free_both : (xs ys : List Item) → AllByRecursion IsFree xs → AllByRecursion IsFree ys → AllByRecursion IsFree (xs ++ ys)
free_both [] ys h k = k
free_both (x ∷ xs) ys h k = (h.0, free_both xs ys h.1 k)

free_lines : (lines : List (List ℕ)) → AllByRecursion IsFree (items_of_lines lines)
free_lines [] = tt
free_lines (line ∷ lines) =
    free_both (line_items line) (items_of_lines lines)
    (free_by (nat_lt line_limit (length line)) (items_of (parsed line)) (free_of (parsed line) (line_fits line))) (free_lines lines)

free_either : (b : Bool) (xs ys : List Item) → AllByRecursion IsFree xs → AllByRecursion IsFree ys → AllByRecursion IsFree (cond b xs ys)
free_either true xs ys h k = h
free_either false xs ys h k = k

pub free_script : (limit : ℕ) (script : List ℕ) → AllByRecursion IsFree (script_items limit script)
unfolding IsFree
free_script limit script =
    free_both (cond (nat_lt limit (length script)) (cut_items limit script) (items_of_lines (lines_of script))) (asked call.Close [] ∷ [])
    (free_either (nat_lt limit (length script)) (cut_items limit script) (items_of_lines (lines_of script))
    (free_both (items_of_lines (ended_lines (take limit script))) (unread misreading.ScriptTooLong ∷ []) (free_lines (ended_lines (take limit script))) (tt, tt))
    (free_lines (lines_of script)))
    (refl, tt)

-- ---- calls with their answers, as they were served and as a history

pub OfCall : (Entry → Type 0) → Served → Type 0
OfCall P (called e) = P e
OfCall P (misread why) = Unit {0}

pub IsQuietEntry : Entry → Type 0
IsQuietEntry e = IsQuiet e.request e.answer

pub quiet_served : (xs : List Served) → AllByRecursion (λ x. told_in x ≡ None) xs → AllByRecursion IsFree (map item_in xs)
    → AllByRecursion (OfCall IsQuietEntry) xs
unfolding OfCall IsFree IsQuietEntry
quiet_served [] h k = tt
quiet_served (called e ∷ xs) h k = (record { told = h.0; free = k.0 }, quiet_served xs h.1 k.1)
quiet_served (misread why ∷ xs) h k = (tt, quiet_served xs h.1 k.1)

pub onto_history : (P : Entry → Type 0) (xs : List Served) (h : History) → AllByRecursion (OfCall P) xs → AllByRecursion P h
    → AllByRecursion P (history_onto (map line_in xs) h)
unfolding OfCall
onto_history P [] h all earlier = earlier
onto_history P (called e ∷ xs) h all earlier = onto_history P xs (e ∷ h) all.1 (all.0, earlier)
onto_history P (misread why ∷ xs) h all earlier = onto_history P xs h all.1 earlier

pub of_history : (P : Entry → Type 0) (xs : List Served) (h : History) → AllByRecursion P (history_onto (map line_in xs) h)
    → AllByRecursion (OfCall P) xs × AllByRecursion P h
unfolding OfCall
of_history P [] h all = (tt, all)
of_history P (called e ∷ xs) h all = let rest = of_history P xs (e ∷ h) all in ((rest.1.0, rest.0), rest.1.1)
of_history P (misread why ∷ xs) h all = let rest = of_history P xs h all in ((tt, rest.0), rest.1)

-- ---- a quiet history

pub StatusOf : Entry → Type 0
StatusOf e = HasStatus e.answer.reply

-- a quiet legal history is whole, each answer is the disk's own, and has its status
pub record IsCalm (g : Geometry) (s0 : Stack) (h : History) : Type 0 where
  pub whole : broken_at h ≡ None
  pub own : AreOwnAnswers g s0 h
  pub statuses : AllByRecursion StatusOf h

pub calm_history : (g : Geometry) (s0 : Stack) (h : History) → AllByRecursion IsQuietEntry h → IsLegal g s0 h → IsCalm g s0 h
unfolding IsQuietEntry StatusOf
calm_history g s0 [] quiet legal = record { whole = refl; own = tt; statuses = tt }
calm_history g s0 (e ∷ earlier) quiet legal =
    let before = calm_history g s0 earlier quiet.1 legal.0 in
    let may : MayAnswer g (stack_after g s0 earlier) e.request e.answer =
    subst (λ (at : Option ℕ). MaySay at g (stack_after g s0 earlier) e.request e.answer) before.whole legal.1.says in
    let own = own_answer g (stack_after g s0 earlier) e.request e.answer quiet.0 may in
    record {
      whole = ap (λ (at : Option ℕ). broken_with at (length earlier + 1) e) before.whole
          ∙ ap (λ (b : Bool). cond b (Some (length earlier + 1)) None) (quiet_breaks e.request.asked e.answer.reply quiet.0.told);
      own = (before.own, own.says);
      statuses = (own.status, before.statuses);
    }

-- ---- the status

worse : (a b : Bool) → max (cond a 1 0) (cond b 1 0) ≡ cond (a || b) 1 0
worse true true = refl
worse true false = refl
worse false true = refl
worse false false = refl

status_of : (x : Served) → OfCall StatusOf x → status_in x ≡ cond (refused_in x) 1 0
unfolding OfCall StatusOf
status_of (called e) h = h
status_of (misread why) h = refl

pub worst_is : (xs : List Served) → AllByRecursion (OfCall StatusOf) xs → worst xs ≡ cond (list_any refused_in xs) 1 0
worst_is [] h = refl
worst_is (x ∷ xs) h =
    ap (λ (n : ℕ). max n (worst xs)) (status_of x h.0) ∙ ap (λ (n : ℕ). max (cond (refused_in x) 1 0) n) (worst_is xs h.1)
    ∙ worse (refused_in x) (list_any refused_in xs)
