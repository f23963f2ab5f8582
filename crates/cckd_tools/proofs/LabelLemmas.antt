-- The label, part by part.
use Rattle.std.proofs.Common.{◌≡◌, ℕ, ◌+◌, ◌-◌, List, [], ◌∷◌, ◌++◌, length, take, drop, replicate, refl, subst, ◌∙◌, ap, arith, append_assoc, length-append}
use Rattle.std.proofs.lemmas.List.{drop-replicate, take-replicate, length-drop, length-replicate}
use Rattle.std.proofs.Math.Seq.{take-append-add}
use Rattle.cckd_base.specs.Put.{IsPut}
use Rattle.cckd_base.proofs.PutLemmas.{puts_join, put_in_front}
use Rattle.cckd_base.specs.declared.geometry.Geometry.{Geometry}
use Rattle.cckd_base.specs.declared.geometry.Layout.{Layout}
use Rattle.cckd_base.specs.declared.order.Order.TheVariants.{Little}
use Rattle.cckd_image.specs.declared.header.ImageHeader.{ImageHeader}
use Rattle.std.specs.Int.{w32, to_le_bytes}
use Rattle.cckd_base.specs.Entry.{entry_bytes}
use Rattle.cckd_image.specs.Image.{header_bytes}
use Rattle.cckd_image.specs.Fresh.{new_header}
use Rattle.cckd_base.specs.declared.geometry.Addr.{Addr}
use Rattle.cckd_base.specs.Geometry.{address_of}
use Rattle.cckd_base.specs.Track.{CountKeyData, null_record_zero, spelled_track}
use Rattle.cckd_track.specs.Builder.{IsBuilt, record_at_address}
use Rattle.cckd_track.proofs.BuilderLemmas.{marked_length, more_length}
use Rattle.cckd_tools.specs.Label.{label_table, label_entry, image_with, label_header, label_size, label_used, ipl1, ipl2, vol1, blank, label_data, label_records, label_track, label_length}

parts : (serial zeros rest : List ℕ) → ((serial ++ blank ∷ []) ++ zeros) ++ rest ≡ serial ++ (blank ∷ (zeros ++ rest))
parts serial zeros rest = append_assoc (serial ++ blank ∷ []) zeros rest ∙ append_assoc serial (blank ∷ []) (zeros ++ rest)

pub label_put : (serial old a b c d : List ℕ) (i j k n : ℕ) → length serial ≡ 6 → old ≡ replicate 80 blank → IsPut 0 i vol1 old a → IsPut i j serial a b
    → IsPut j k (blank ∷ []) b c → IsPut k n (replicate 5 0) c d → d ≡ label_data serial
label_put serial old a b c d i j k n six blanks one two three four =
    let whole = puts_join 0 k n ((vol1 ++ serial) ++ blank ∷ []) (replicate 5 0) old c d
    (puts_join 0 j k (vol1 ++ serial) (blank ∷ []) old b c (puts_join 0 i j vol1 serial old a b one two) three) four in
    let end : n ≡ 16 = omega (arith, whole.ends, length-append ((vol1 ++ serial) ++ blank ∷ []) (replicate 5 0), length-append (vol1 ++ serial) (blank ∷ []), length-append vol1 serial, six) in
    put_in_front n (((vol1 ++ serial) ++ blank ∷ []) ++ replicate 5 0) old d whole
    ∙ ap (λ (s : List ℕ). vol1 ++ (((serial ++ blank ∷ []) ++ replicate 5 0) ++ s))
    ((λ i. drop (end i) (blanks i)) ∙ drop-replicate 16 80 blank)
    ∙ ap (λ (s : List ℕ). vol1 ++ s) (parts serial (replicate 5 0) (replicate 64 blank))

-- ---- lengths

-- the records before the label
abbrev pub first_records : Addr → List CountKeyData
first_records a = null_record_zero a ∷ record_at_address a 1 ipl1 (replicate 24 0) ∷ []

abbrev pub second_records : Addr → List CountKeyData
second_records a = first_records a ++ record_at_address a 2 ipl2 (replicate 144 0) ∷ []

pub first_long : (geo : Geometry) → length (spelled_track geo 0 0 (first_records (address_of geo 0))) ≡ 65
unfolding spelled_track
first_long geo = refl

pub second_long : (geo : Geometry) → length (spelled_track geo 0 0 (second_records (address_of geo 0))) ≡ 221
unfolding spelled_track
second_long geo = refl

data_long : (serial : List ℕ) → length serial ≡ 6 → length (label_data serial) ≡ 80
data_long serial six = omega (arith, length-append serial (blank ∷ (replicate 5 0 ++ replicate 64 blank)), six)

pub label_long : (geo : Geometry) (serial : List ℕ) → length serial ≡ 6 → length (label_track geo serial) ≡ label_length
label_long geo serial six =
    let a = address_of geo 0 in
    omega (
      arith,
      more_length geo 0 (second_records a) (record_at_address a 3 vol1 (label_data serial)),
      marked_length geo 0 (second_records a),
      second_long geo,
      data_long serial six,
    )

-- ---- the track that was built

pub built_as : (geo : Geometry) (serial bytes before : List ℕ) (len : ℕ) (out : List ℕ) → bytes ≡ label_data serial
    → IsBuilt geo 0 (second_records (address_of geo 0) ++ record_at_address (address_of geo 0) 3 vol1 bytes ∷ []) before len out
    → IsBuilt geo 0 (label_records (address_of geo 0) serial) before len out
built_as geo serial bytes before len out e built =
    subst (λ (b : List ℕ). IsBuilt geo 0 (second_records (address_of geo 0) ++ record_at_address (address_of geo 0) 3 vol1 b ∷ []) before len out) e built

-- ---- the headers

pub header_as : (h : ImageHeader) (l : Layout) (size used between : ℕ) → h ≡ new_header (record l { order = Little }) → size ≡ label_size l → used ≡ label_used l
    → between ≡ label_size l - label_used l
    → ◌≡◌ {A = ImageHeader} (record h { cckd = record h.cckd { size = size; used = used; free_imbed = between } }) (label_header l)
header_as h l size used between e f g k = λ i. record (e i) { cckd = record (e i).cckd { size = f i; used = g i; free_imbed = k i } }

-- ---- the track's space

pub space_is : (geo : Geometry) (serial before out : List ℕ) (len : ℕ) → length serial ≡ 6 → before ≡ replicate 65536 0
    → IsBuilt geo 0 (label_records (address_of geo 0) serial) before len out → take 320 out ≡ label_track geo serial ++ replicate 7 0
space_is geo serial before out len six zeros built =
    let track = label_track geo serial in
    let long = label_long geo serial six in
    let whole : out ≡ track ++ replicate (65536 - len) 0 = built.bytes ∙ ap (λ (s : List ℕ). track ++ s) (ap (drop len) zeros ∙ drop-replicate len 65536 0) in
    let ends : 320 ≡ length track + 7 = omega (arith, long) in
    ap (take 320) whole
    ∙ ap (λ (n : ℕ). take n (track ++ replicate (65536 - len) 0)) ends
    ∙ take-append-add track (replicate (65536 - len) 0) 7
    ∙ ap (λ (s : List ℕ). track ++ s) (take-replicate 7 (65536 - len) 0 (omega (arith, built.length_is, long)))

pub space_long : (geo : Geometry) (serial before out : List ℕ) (len : ℕ) → length serial ≡ 6 → before ≡ replicate 65536 0
    → IsBuilt geo 0 (label_records (address_of geo 0) serial) before len out → length out ≡ 65536
space_long geo serial before out len six zeros built =
    let track = label_track geo serial in
    omega (
      arith,
      ap length built.bytes,
      length-append track (drop len before),
      length-drop len before,
      ap length zeros,
      length-replicate {A = ℕ} 65536 0,
      built.length_is,
      label_long geo serial six,
    )

-- ---- the image

pub image_is : (l : Layout) (table : ℕ) (headers word entry space new : List ℕ) → table ≡ label_table l → headers ≡ header_bytes (label_header l) → word ≡ to_le_bytes w32 table
    → entry ≡ entry_bytes Little (label_entry l) → new ≡ headers ++ (word ++ (replicate (table - 1028) 0 ++ (entry ++ (replicate 2040 0 ++ space)))) → new ≡ image_with l space
unfolding image_with
image_is l table headers word entry space new at e f g whole =
    whole ∙ (λ i. e i ++ ((f ∙ ap (to_le_bytes w32) at) i ++ (replicate (at i - 1028) 0 ++ (g i ++ (replicate 2040 0 ++ space)))))
