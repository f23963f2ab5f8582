-- Fields that are read back from the bytes that spell them.
use Rattle.std.proofs.Common.{◌≡◌, ℕ, ◌+◌, ◌≤◌, List, [], ◌∷◌, ◌++◌, length, take, drop, slice_index, refl, sym, ◌∙◌, ap, arith, append_assoc, add-one}
use Rattle.std.proofs.lemmas.List.{take_all, take-append-le, drop-append-le, drop-drop, drop_at, get_or-append-add, length-drop}
use Rattle.std.proofs.Math.Seq.{take-append_seam}
use Rattle.std.specs.Int.{Width, w16, w32, cast_signed, cast_unsigned}
use Rattle.cckd_base.specs.declared.order.Order.{Order}
use Rattle.cckd_base.specs.declared.order.Order.TheVariants.{Little, Big}
use Rattle.cckd_base.specs.Numbers.{number_of, bytes_of, bytes_at}
use Rattle.cckd_image.specs.declared.header.DevHeader.{DevHeader}
use Rattle.cckd_image.specs.declared.header.CckdHeader.{CckdHeader}
use Rattle.cckd_image.specs.Image.{order_by, dev_header_of, cckd_header_of, dev_bytes, count_bytes, cckd_bytes, HasCounts}

-- ---- parts at their places

first : (n : ℕ) (a b : List ℕ) → length a ≡ n → bytes_at (a ++ b) 0 n ≡ a
first n a b long = ap (λ (k : ℕ). take k (a ++ b)) (sym long) ∙ take-append_seam a b

later : (a b : List ℕ) (m k n : ℕ) → length a ≡ m → bytes_at (a ++ b) (m + k) n ≡ bytes_at b k n
later a b m k n long = ap (take n) (sym (drop-drop k m (a ++ b)) ∙ ap (drop k) (drop_at a b m long))

byte_later : (a b : List ℕ) (m k : ℕ) → length a ≡ m → slice_index (a ++ b) (m + k) ≡ slice_index b k
byte_later a b m k long = ap (λ (j : ℕ). slice_index (a ++ b) (j + k)) (sym long) ∙ get_or-append-add a b k 0

inside : (a b : List ℕ) (k n : ℕ) → k + n ≤ length a → bytes_at (a ++ b) k n ≡ bytes_at a k n
inside a b k n fits =
    ap (take n) (drop-append-le k a b (omega (arith, fits))) ∙ take-append-le n (drop k a) b (omega (arith, fits, length-drop k a))

-- ---- numbers

-- a number is read back from its bytes
abbrev pub IsBack : Order → Width → ℕ → Type 0
IsBack order w n = number_of order w (bytes_of order w n) ≡ n

pub is_back : (order : Order) (w : Width) (n : ℕ) (bytes : List ℕ) → bytes ≡ bytes_of order w n → number_of order w bytes ≡ n → IsBack order w n
is_back order w n bytes e f = ap (number_of order w) (sym e) ∙ f

four : (order : Order) (n : ℕ) → length (bytes_of order w32 n) ≡ 4
four Little n = refl
four Big n = refl

two : (order : Order) (n : ℕ) → length (bytes_of order w16 n) ≡ 2
two Little n = refl
two Big n = refl

-- ---- the device header

pub dev_back : (d : DevHeader) (rest : List ℕ) → length d.id ≡ 8 → length d.reserved ≡ 492 → IsBack Little w32 d.heads → IsBack Little w32 d.track_size → IsBack Little w16 d.highest
    → dev_header_of (dev_bytes d ++ rest) ≡ d
unfolding dev_bytes
dev_back d rest eight long heads size highest =
    let behind = bytes_of Little w32 d.heads ++ (bytes_of Little w32 d.track_size ++ ((d.devtype ∷ d.sequence ∷ []) ++ (bytes_of Little w16 d.highest ++ (d.reserved ++ rest)))) in
    ap dev_header_of (append_assoc d.id (bytes_of Little w32 d.heads ++ (bytes_of Little w32 d.track_size ++ ((d.devtype ∷ d.sequence ∷ []) ++ (bytes_of Little w16 d.highest ++ d.reserved)))) rest)
    ∙ (λ i. record {
      id = first 8 d.id behind eight i;
      heads = (ap (number_of Little w32) (later d.id behind 8 0 4 eight) ∙ heads) i;
      track_size = (ap (number_of Little w32) (later d.id behind 8 4 4 eight) ∙ size) i;
      devtype = byte_later d.id behind 8 8 eight i;
      sequence = byte_later d.id behind 8 9 eight i;
      highest = (ap (number_of Little w16) (later d.id behind 8 10 2 eight) ∙ highest) i;
      reserved = (later d.id behind 8 12 492 eight ∙ first 492 d.reserved rest long) i;
    })

-- ---- the counts

pub counts_back : (o : Order) (c : CckdHeader) → IsBack o w32 c.words → IsBack o w32 c.entries → IsBack o w32 c.size → IsBack o w32 c.used → IsBack o w32 c.free
    → IsBack o w32 c.free_total → IsBack o w32 c.free_largest → IsBack o w32 c.free_number → IsBack o w32 c.free_imbed → HasCounts o (count_bytes o c) c
unfolding count_bytes
counts_back o c words entries size used free total largest number imbed =
    let w = λ (n : ℕ). bytes_of o w32 n in
    let r8 = w c.free_imbed in
    let r7 = w c.free_number ++ r8 in
    let r6 = w c.free_largest ++ r7 in
    let r5 = w c.free_total ++ r6 in
    let r4 = w c.free ++ r5 in
    let r3 = w c.used ++ r4 in
    let r2 = w c.size ++ r3 in
    let r1 = w c.entries ++ r2 in
    let p1 = λ (k : ℕ). later (w c.words) r1 4 k 4 (four o c.words) in
    let p2 = λ (k : ℕ). p1 (4 + k) ∙ later (w c.entries) r2 4 k 4 (four o c.entries) in
    let p3 = λ (k : ℕ). p2 (4 + k) ∙ later (w c.size) r3 4 k 4 (four o c.size) in
    let p4 = λ (k : ℕ). p3 (4 + k) ∙ later (w c.used) r4 4 k 4 (four o c.used) in
    let p5 = λ (k : ℕ). p4 (4 + k) ∙ later (w c.free) r5 4 k 4 (four o c.free) in
    let p6 = λ (k : ℕ). p5 (4 + k) ∙ later (w c.free_total) r6 4 k 4 (four o c.free_total) in
    let p7 = λ (k : ℕ). p6 (4 + k) ∙ later (w c.free_largest) r7 4 k 4 (four o c.free_largest) in
    let p8 = λ (k : ℕ). p7 (4 + k) ∙ later (w c.free_number) r8 4 k 4 (four o c.free_number) in
    record {
      words = ap (number_of o w32) (first 4 (w c.words) r1 (four o c.words)) ∙ words;
      entries = ap (number_of o w32) (p1 0 ∙ first 4 (w c.entries) r2 (four o c.entries)) ∙ entries;
      size = ap (number_of o w32) (p2 0 ∙ first 4 (w c.size) r3 (four o c.size)) ∙ size;
      used = ap (number_of o w32) (p3 0 ∙ first 4 (w c.used) r4 (four o c.used)) ∙ used;
      free = ap (number_of o w32) (p4 0 ∙ first 4 (w c.free) r5 (four o c.free)) ∙ free;
      free_total = ap (number_of o w32) (p5 0 ∙ first 4 (w c.free_total) r6 (four o c.free_total)) ∙ total;
      free_largest = ap (number_of o w32) (p6 0 ∙ first 4 (w c.free_largest) r7 (four o c.free_largest)) ∙ largest;
      free_number = ap (number_of o w32) (p7 0 ∙ first 4 (w c.free_number) r8 (four o c.free_number)) ∙ number;
      free_imbed = ap (number_of o w32) (p8 0 ∙ take_all 4 r8 (omega (arith, four o c.free_imbed))) ∙ imbed;
    }

-- ---- the header of a compressed device

behind_byte : (x : ℕ) (xs : List ℕ) (k n : ℕ) → bytes_at (x ∷ xs) (k + 1) n ≡ bytes_at xs k n
behind_byte x xs k n = ap (λ (j : ℕ). take n (drop j (x ∷ xs))) (add-one k)

pub cckd_back : (c : CckdHeader) (front : List ℕ) → length front ≡ 512 → length c.version ≡ 3 → length c.reserved ≡ 464
    → length (count_bytes (order_by c.options) c) ≡ 36 → HasCounts (order_by c.options) (count_bytes (order_by c.options) c) c → IsBack Little w32 c.cyls
    → IsBack (order_by c.options) w16 (cast_unsigned w16 c.param) → cast_signed w16 (cast_unsigned w16 c.param) ≡ c.param
    → cckd_header_of (front ++ cckd_bytes c) ≡ c
unfolding cckd_bytes
cckd_back c front half three long counted counts cyls param signed =
    let o = order_by c.options in
    let words = count_bytes o c in
    let p = bytes_of o w16 (cast_unsigned w16 c.param) in
    let v = bytes_of Little w32 c.cyls ++ ((c.null_fmt ∷ c.compress ∷ []) ++ (p ++ c.reserved)) in
    let u = words ++ v in
    let t = c.version ++ (c.options ∷ u) in
    let option : slice_index (front ++ t) 515 ≡ c.options = byte_later front t 512 3 half ∙ byte_later c.version (c.options ∷ u) 3 0 three in
    let order : order_by (slice_index (front ++ t) 515) ≡ o = ap order_by option in
    let at = λ (k n : ℕ). later front t 512 (3 + (k + 1)) n half ∙ later c.version (c.options ∷ u) 3 (k + 1) n three ∙ behind_byte c.options u k n in
    let count = λ (k : ℕ) (fits : k + 4 ≤ 36). at k 4 ∙ inside words v k 4 (omega (arith, fits, counted)) in
    let behind = λ (k n : ℕ). at (36 + k) n ∙ later words v 36 k n counted in
    λ i. record {
      version = (later front t 512 0 3 half ∙ first 3 c.version (c.options ∷ u) three) i;
      options = option i;
      words = ((λ j. number_of (order j) w32 (count 0 (omega arith) j)) ∙ counts.words) i;
      entries = ((λ j. number_of (order j) w32 (count 4 (omega arith) j)) ∙ counts.entries) i;
      size = ((λ j. number_of (order j) w32 (count 8 (omega arith) j)) ∙ counts.size) i;
      used = ((λ j. number_of (order j) w32 (count 12 (omega arith) j)) ∙ counts.used) i;
      free = ((λ j. number_of (order j) w32 (count 16 (omega arith) j)) ∙ counts.free) i;
      free_total = ((λ j. number_of (order j) w32 (count 20 (omega arith) j)) ∙ counts.free_total) i;
      free_largest = ((λ j. number_of (order j) w32 (count 24 (omega arith) j)) ∙ counts.free_largest) i;
      free_number = ((λ j. number_of (order j) w32 (count 28 (omega arith) j)) ∙ counts.free_number) i;
      free_imbed = ((λ j. number_of (order j) w32 (count 32 (omega arith) j)) ∙ counts.free_imbed) i;
      cyls = (ap (number_of Little w32) (behind 0 4) ∙ cyls) i;
      null_fmt = (byte_later front t 512 44 half ∙ byte_later c.version (c.options ∷ u) 3 41 three ∙ byte_later words v 36 4 counted) i;
      compress = (byte_later front t 512 45 half ∙ byte_later c.version (c.options ∷ u) 3 42 three ∙ byte_later words v 36 5 counted) i;
      param = (ap (cast_signed w16) ((λ j. number_of (order j) w16 ((behind 6 2 ∙ first 2 p c.reserved (two o (cast_unsigned w16 c.param))) j)) ∙ param) ∙ signed) i;
      reserved = (behind 8 464 ∙ later p c.reserved 2 0 464 (two o (cast_unsigned w16 c.param)) ∙ take_all 464 c.reserved (omega (arith, long))) i;
    }
