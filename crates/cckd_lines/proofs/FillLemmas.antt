-- What a room has after more of a script was taken.
use Rattle.std.proofs.Common.{◌≡◌, ℕ, ◌+◌, ◌-◌, ◌<◌, ◌≤◌, true, false, List, [], ◌∷◌, ◌++◌, length, take, drop, sym, ◌∙◌, ap, subst, arith, append_assoc, append-nil, length-append, length-drop}
use Rattle.std.proofs.lemmas.List.{take-append-drop, length-take-le, drop-drop, drop-take, take-take}
use Rattle.std.proofs.Math.Seq.{take-append_seam}
use borrow.Rule.Slice.PartMut.{put_mid}
use Rattle.cckd_shelf.specs.declared.fault.Faults.{Faults}
use Rattle.cckd_shelf.specs.World.{World}
use Rattle.cckd_lines.specs.declared.lines.Place.{Place}
use Rattle.cckd_lines.specs.declared.lines.Next.TheVariants as next
use Rattle.cckd_script.specs.Lines.{HasNoFeed}
use Rattle.cckd_script.proofs.LineLemmas.{no_feed-append}
use Rattle.cckd_lines.specs.Lines.{OnlyTakes, held, IsFirstFeed, fed, last, Passes, IsPlace, IsAtEnd, Grows, TakesMore, pending}
use Rattle.cckd_lines.proofs.FeedLemmas.{put_behind}

pub only_takes_twice : (a b c : World) → OnlyTakes a b → OnlyTakes b c → OnlyTakes a c
only_takes_twice a b c f g = record { files = g.files ∙ f.files; events = g.events ∙ f.events }

-- so many bytes of the script were taken behind what was pending
pub took : (room into : List ℕ) (place after : Place) (script left : List ℕ) (count k : ℕ)
    → IsPlace room place → count ≤ length into
    → take count into ≡ take count script → left ≡ drop count script
    → after.start ≡ place.start → after.end ≡ place.end + count
    → IsAtEnd after left
    → TakesMore (held room place script) (held (put_mid place.end k room into) after left)
took room into place after script left count k is fits same rest start end ended = record {
  rest =
      let p = place.end - place.start in
      let seam : place.start + p ≡ place.end = omega (arith, is.order) in
      let put : take (p + count) (drop place.start (put_mid (place.start + p) k room into)) ≡ take p (drop place.start room) ++ take count into =
      put_behind place.start p count k room into (omega (arith, is.order, is.within)) fits in
      let put_at : take (p + count) (drop place.start (put_mid place.end k room into)) ≡ take p (drop place.start room) ++ take count into =
      subst (λ (n : ℕ). take (p + count) (drop place.start (put_mid n k room into)) ≡ take p (drop place.start room) ++ take count into) seam put in
      let long : after.end - after.start ≡ p + count = omega (arith, is.order, start, end) in
      ap (λ (s : List ℕ). s ++ left) (
      ap (λ (n : ℕ). take n (drop after.start (put_mid place.end k room into))) long
      ∙ ap (λ (n : ℕ). take (p + count) (drop n (put_mid place.end k room into))) start
      ∙ put_at ∙ ap (λ (s : List ℕ). take p (drop place.start room) ++ s) same)
      ∙ append_assoc (take p (drop place.start room)) (take count script) left
      ∙ ap (λ (s : List ℕ). take p (drop place.start room) ++ (take count script ++ s)) rest
      ∙ ap (λ (s : List ℕ). take p (drop place.start room) ++ s) (take-append-drop count script);
  ended = ended;
}

-- how much is pending
pub length_pending : (room : List ℕ) (place : Place) → IsPlace room place → length (pending room place) ≡ place.end - place.start
length_pending room place is =
    length-take-le (place.end - place.start) (drop place.start room)
    (omega (arith, length-drop place.start room, is.order, is.within))

-- what was pending stands at the front of what is pending then
pub front_stays : (room into : List ℕ) (place after : Place) (count k : ℕ)
    → IsPlace room place → count ≤ length into → after.start ≡ place.start → after.end ≡ place.end + count
    → take (place.end - place.start) (pending (put_mid place.end k room into) after) ≡ pending room place
front_stays room into place after count k is fits start end =
    let p = place.end - place.start in
    let seam : place.start + p ≡ place.end = omega (arith, is.order) in
    let put : take (p + count) (drop place.start (put_mid place.end k room into)) ≡ pending room place ++ take count into =
    subst (λ (n : ℕ). take (p + count) (drop place.start (put_mid n k room into)) ≡ pending room place ++ take count into) seam
    (put_behind place.start p count k room into (omega (arith, is.order, is.within)) fits) in
    let long : after.end - after.start ≡ p + count = omega (arith, is.order, start, end) in
    ap (take p) (
    ap (λ (n : ℕ). take n (drop after.start (put_mid place.end k room into))) long
    ∙ ap (λ (n : ℕ). take (p + count) (drop n (put_mid place.end k room into))) start ∙ put
    )
    ∙ ap (λ (n : ℕ). take n (pending room place ++ take count into)) (sym (length_pending room place is))
    ∙ take-append_seam (pending room place) (take count into)

-- what is pending further behind
pub pending_behind : (room : List ℕ) (place behind : Place) (k : ℕ) → IsPlace room place → place.start + k ≤ place.end
    → behind.start ≡ place.start + k → behind.end ≡ place.end → pending room behind ≡ drop k (pending room place)
pending_behind room place behind k is fits start end =
    let m = place.end - (place.start + k) in
    ap (λ (n : ℕ). take n (drop behind.start room)) (omega (arith, start, end))
    ∙ ap (λ (n : ℕ). take m (drop n room)) start
    ∙ ap (take m) (sym (drop-drop k place.start room))
    ∙ sym (drop-take k m (drop place.start room))
    ∙ ap (λ (n : ℕ). drop k (take n (drop place.start room))) (omega (arith, fits))

-- what is pending up to a place
pub pending_front : (room : List ℕ) (place : Place) (k : ℕ) → place.start + k ≤ place.end
    → take (place.start + k - place.start) (drop place.start room) ≡ take k (pending room place)
pending_front room place k fits =
    ap (λ (n : ℕ). take n (drop place.start room)) (omega arith)
    ∙ sym (take-take k (place.end - place.start) (drop place.start room) (omega (arith, fits)))

-- what is behind the line that a feed ends
pub line_ends : (room : List ℕ) (place behind : Place) (at : ℕ) (left : List ℕ) → IsPlace room place
    → IsFirstFeed (pending room place) at → behind.start ≡ place.start + (at + 1) → behind.end ≡ place.end
    → pending room place ++ left ≡ take at (pending room place) ++ 10 ∷ (pending room behind ++ left)
line_ends room place behind at left is feed start end =
    let long = length_pending room place is in
    let rest : pending room behind ≡ drop (at + 1) (pending room place) =
    pending_behind room place behind (at + 1) is (omega (arith, feed.within, long, is.order)) start end in
    ap (λ (s : List ℕ). s ++ left) feed.split
    ∙ append_assoc (take at (pending room place)) (10 ∷ drop (at + 1) (pending room place)) left
    ∙ ap (λ (s : List ℕ). take at (pending room place) ++ 10 ∷ (s ++ left)) (sym rest)

-- nothing is pending at the end
pub none_pending : (room : List ℕ) (place : Place) → place.end ≤ place.start → pending room place ≡ []
none_pending room place h =
    let none : place.end - place.start ≡ 0 = omega (arith, h) in
    ap (λ (n : ℕ). take n (drop place.start room)) none

-- what was pending and the rest of the script are what is passed, and the rest
pub record IsPassing (tells : Type 0) (old now : World) (before after : Faults) (first place : Place) : Type 0 where
  pub piece : tells → (piece : List ℕ) × HasNoFeed piece × (old.script ≡ piece ++ now.script) × (place.left + length piece ≡ first.left)
  pub going_on : place.ended ≡ false
  pub left : place.left ≤ first.left
  pub only : tells → OnlyTakes old now
  pub quiet : after ≡ before

module _ (tells : Type 0) (old now then : World) (before after later : Faults) (first place emptied taken : Place)
    (room room' : List ℕ) (so_far : IsPassing tells old now before after first place)
    (start : emptied.start ≡ 0) (end : emptied.end ≡ 0) (left : emptied.left ≡ place.left)
    (is : IsPlace room' taken) (grows : Grows emptied taken)
    (more : tells → TakesMore (held room emptied now.script) (held room' taken then.script))
  where
    -- all that was taken of the line
    passed_text : tells → now.script ≡ pending room' taken ++ then.script
    passed_text told = sym ((more told).rest ∙ ap (λ (s : List ℕ). s ++ now.script) (none_pending room emptied (omega (arith, start, end))))

    pub passes_on : HasNoFeed (pending room' taken) → taken.ended ≡ false → (tells → OnlyTakes now then)
        → later ≡ after → IsPassing tells old then before later first taken
    passes_on none going only fine = record {
      piece = λ told.
          let p = so_far.piece told in (
            p.0 ++ pending room' taken,
            no_feed-append p.0 (pending room' taken) p.1 none,
            p.2 ∙ ap (λ (s : List ℕ). p.0 ++ s) (passed_text told) ∙ sym (append_assoc p.0 (pending room' taken) then.script),
            omega (arith, p.3, length-append p.0 (pending room' taken), length_pending room' taken is, grows.shared, grows.start, start, end, left),
          );
      going_on = going;
      left = omega (arith, so_far.left, grows.left, left);
      only = λ told. only_takes_twice old now then (so_far.only told) (only told);
      quiet = fine ∙ so_far.quiet;
    }

    pub passes_feed : (behind : Place) (at : ℕ) → IsFirstFeed (pending room' taken) at → behind.start ≡ taken.start + at + 1
        → behind.end ≡ taken.end → behind.left ≡ taken.left → tells
        → Passes first.left old.script (held room' behind then.script) next.LineTooLong
    passes_feed behind at feed from to same told =
        let p = so_far.piece told in
        let seam : behind.start ≡ taken.start + (at + 1) = omega (arith, from) in
        let long = length_pending room' taken is in
        let rest = length_pending room' behind (record { order = omega (arith, seam, feed.within, long, is.order, to); within = omega (arith, to, is.within) }) in (
          p.0 ++ take at (pending room' taken),
          fed (no_feed-append p.0 (take at (pending room' taken)) p.1 feed.before)
              (p.2 ∙ ap (λ (s : List ℕ). p.0 ++ s) (passed_text told ∙ line_ends room' taken behind at then.script is feed seam to)
              ∙ sym (append_assoc p.0 (take at (pending room' taken)) (10 ∷ (pending room' behind ++ then.script)))),
          omega (
            arith,
            p.3,
            ap length p.2,
            ap length (passed_text told),
            length-append p.0 now.script,
            length-append (pending room' taken) then.script,
            length-append (pending room' behind) then.script,
            long,
            rest,
            seam,
            to,
            same,
            feed.within,
            is.order,
            grows.shared,
            grows.start,
            start,
            end,
            left,
          ),
        )

    pub passes_end : (behind : Place) → HasNoFeed (pending room' taken) → taken.ended ≡ true → behind.start ≡ taken.end
        → behind.end ≡ taken.end → behind.left ≡ taken.left → behind.ended ≡ taken.ended → tells
        → Passes first.left old.script (held room' behind then.script) next.LineTooLong
    passes_end behind none ended from to same goes told =
        let p = so_far.piece told in
        let long = length_pending room' taken is in
        let no_script : then.script ≡ [] = (more told).ended ended in
        let nothing : pending room' behind ≡ [] = none_pending room' behind (omega (arith, from, to)) in
        let rest : pending room' behind ++ then.script ≡ [] = ap (λ (s : List ℕ). s ++ then.script) nothing ∙ no_script in
        let text : old.script ≡ p.0 ++ pending room' taken =
        p.2 ∙ ap (λ (s : List ℕ). p.0 ++ s) (
        passed_text told ∙ ap (λ (s : List ℕ). pending room' taken ++ s) no_script ∙ append-nil (pending room' taken)
        ) in (
          p.0 ++ pending room' taken,
          last (no_feed-append p.0 (pending room' taken) p.1 none) text rest (goes ∙ ended),
          omega (
            arith,
            p.3,
            ap length text,
            ap length rest,
            length-append p.0 (pending room' taken),
            long,
            from,
            to,
            same,
            is.order,
            grows.shared,
            grows.start,
            start,
            end,
            left,
          ),
        )
