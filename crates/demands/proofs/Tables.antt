-- Each table of refusals gives one number, and it is the one that the definitions give.
use Prim.{Unit}
use Prim.Native.Nat.{ℕ, ◌≤◌, ◌%◌}
use mathlib.Core.Bool.{Bool, true, false, not, ◌||◌, true≢false}
use mathlib.Core.List.{List, [], ◌∷◌}
use mathlib.Core.Path.{◌≡◌, refl, sym, subst, ◌∙◌, ap}
use native.Mathlib.Omega.{arith}
use lib.ListN.{length, get_or}
use lib.Dec.{eqb, ltb, leb}
use borrow.Author.Tests.{eqb-true, eqb-false, ltb-true, ltb-false, leb-true, leb-false, not-true, not-false, eq-eqb, ne_eqb, le-ltb, le-leb, lt-leb}
use Rattle.base.specs.Choice.{when◌then◌else◌}
use Rattle.base.proofs.Choice.{either-told, by_test}
use Rattle.base.proofs.Tests.{or_neither, and_both, never}
use Rattle.sender.specs.Sender.{sent}
use Rattle.picture.specs.Picture.{Seen}
use Rattle.picture.specs.Refusals.{refusal_of}
use Rattle.std.proofs.Common.{Some, None, Ok, Err}
use Rattle.refusals.specs.Numbers.{answer_number}
use Rattle.capture.specs.declared.kind.Kind.{Kind}
use Rattle.capture.specs.declared.record.Record.{Record}
use Rattle.capture.specs.Kinds.{last_kind, kind_of, kind_number}
use Rattle.capture.specs.Kinds as kinds
use Rattle.capture.specs.Record as records
use Rattle.capture.specs.Record.{Answer, taken_with}
use Rattle.reader.specs.Capture.{read_on, contents}
use Rattle.capture.proofs.Answers.{nothing_left, one_to_three_left}
use Rattle.capture.proofs.ByKind.{by_kind, number_again}
use Rattle.capture.proofs.Taken.{judged_with, taken_four_left}
use Rattle.demands.specs.Demand1.{GoodFullFont, TableSays, frame_length, half_font_length, full_font_length, want_of_time, other_link, all_good, OneNumber, OneAnswer}
use Rattle.demands.specs.Demand1 as demands
use Rattle.demands.specs.Demand1.{SenderSays, SendRefuses, Marked, Allowed, RecordSays}

-- the number of a call, from that of its buffers
abbrev pub or_wants : Bool → Bool → ℕ → ℕ
or_wants wants other n = when eqb n 0 then (when wants then 8 else when other then 5 else 0) else n

full-good : (e : Seen) → (not (eqb (length e.fonts.full % 32) 0) || ltb 281600 (length e.fonts.full)) ≡ false → GoodFullFont e
full-good e d =
    let q = or_neither (not (eqb (length e.fonts.full % 32) 0)) (ltb 281600 (length e.fonts.full)) d in
    (eqb-true (length e.fonts.full % 32) 0 (not-false (eqb (length e.fonts.full % 32) 0) q.0), ltb-false 281600 (length e.fonts.full) q.1)

good-full : (e : Seen) → GoodFullFont e → (not (eqb (length e.fonts.full % 32) 0) || ltb 281600 (length e.fonts.full)) ≡ false
good-full e g = rw (eq-eqb (length e.fonts.full % 32) 0 g.0, le-ltb 281600 (length e.fonts.full) g.1)

module _ (e : Seen) (frame : List ℕ) (wants other : Bool) where
  abbrev pub table_number : ℕ
  table_number = or_wants wants other (refusal_of (length frame) (length e.fonts.half) (length e.fonts.full))

  abbrev Says : ℕ → Type 0
  Says n = TableSays e frame wants other (or_wants wants other n)

  pub table-says : TableSays e frame wants other table_number
  unfolding refusal_of
  table-says =
      either-told Says (not (eqb (length frame) 1024)) (λ t. frame_length (eqb-false (length frame) 1024 (not-true (eqb (length frame) 1024) t)))
      (λ a. let f = eqb-true (length frame) 1024 (not-false (eqb (length frame) 1024) a) in
      either-told Says (not (eqb (length e.fonts.half) 2048))
      (λ t. half_font_length f (eqb-false (length e.fonts.half) 2048 (not-true (eqb (length e.fonts.half) 2048) t)))
      (λ b. let h = eqb-true (length e.fonts.half) 2048 (not-false (eqb (length e.fonts.half) 2048) b) in
      either-told Says (not (eqb (length e.fonts.full % 32) 0) || ltb 281600 (length e.fonts.full))
      (λ t. full_font_length f h (λ g. true≢false (sym t ∙ good-full e g)))
      (λ d. either-told (TableSays e frame wants other) wants (want_of_time f h (full-good e d))
      (λ w. either-told (TableSays e frame wants other) other (other_link f h (full-good e d) w) (all_good f h (full-good e d) w)))))

  pub table-number : (n : ℕ) → TableSays e frame wants other n → n ≡ table_number
  unfolding refusal_of
  table-number n (frame_length g) = rw (ne_eqb (length frame) 1024 g)
  table-number n (half_font_length f g) = rw (eq-eqb (length frame) 1024 f, ne_eqb (length e.fonts.half) 2048 g)
  table-number n (full_font_length f h g) =
      rw (
        eq-eqb (length frame) 1024 f,
        eq-eqb (length e.fonts.half) 2048 h,
        by_test (not (eqb (length e.fonts.full % 32) 0) || ltb 281600 (length e.fonts.full)) (λ t. t) (λ d. absurd (g (full-good e d))),
      )
  table-number n (want_of_time f h g w) = rw (eq-eqb (length frame) 1024 f, eq-eqb (length e.fonts.half) 2048 h, good-full e g, w)
  table-number n (other_link f h g w o) = rw (eq-eqb (length frame) 1024 f, eq-eqb (length e.fonts.half) 2048 h, good-full e g, w, o)
  table-number n (all_good f h g w o) = rw (eq-eqb (length frame) 1024 f, eq-eqb (length e.fonts.half) 2048 h, good-full e g, w, o)

  pub table-once : OneNumber (TableSays e frame wants other)
  table-once m n x y = table-number m x ∙ sym (table-number n y)

module _ (register : Bool) (byte : ℕ) (buffer : List ℕ) where
  pub send-refuses : SendRefuses register byte buffer
  unfolding sent
  send-refuses =
      by_test (ltb (length buffer) 3)
      (λ t. record { says = rw t (demands.buffer_length (ltb-true (length buffer) 3 t)); keeps = λ h. rw t })
      (λ t. record { says = rw t (demands.room_enough (ltb-false (length buffer) 3 t)); keeps = λ h. absurd (h (rw t)) })

pub send-once : (buffer : List ℕ) → OneNumber (SenderSays buffer)
send-once buffer m n (demands.buffer_length a) (demands.buffer_length b) = refl
send-once buffer m n (demands.buffer_length a) (demands.room_enough b) = absurd (omega arith)
send-once buffer m n (demands.room_enough a) (demands.buffer_length b) = absurd (omega arith)
send-once buffer m n (demands.room_enough a) (demands.room_enough b) = refl

-- the values that a kind takes, as a test and in words
allowed-is : (kind value : ℕ) → kinds.allowed (kind_of kind) value ≡ true → Allowed kind value
unfolding kind_of
allowed-is kind value h =
    record {
      status_read = λ k. eqb-true value 0 (subst (λ (n : ℕ). kinds.allowed (kind_of n) value ≡ true) k h);
      data_read = λ k. eqb-true value 0 (subst (λ (n : ℕ). kinds.allowed (kind_of n) value ≡ true) k h);
      select_low = λ k. eqb-true value 0 (subst (λ (n : ℕ). kinds.allowed (kind_of n) value ≡ true) k h);
      reset = λ k. leb-true value 3 (subst (λ (n : ℕ). kinds.allowed (kind_of n) value ≡ true) k h);
    }

is-allowed : (kind value : ℕ) → Allowed kind value → kinds.allowed (kind_of kind) value ≡ true
is-allowed kind value a =
    by_kind (λ (k : Kind). kinds.allowed k value ≡ true) kind (λ k. refl) (λ k. refl)
    (λ k. eq-eqb value 0 (a.status_read k))
    (λ k. eq-eqb value 0 (a.data_read k))
    (λ k. refl)
    (λ k. eq-eqb value 0 (a.select_low k))
    (λ k. le-leb value 3 (a.reset k))
    (λ k. refl)

seven-at_most : (time : Bool) (n : ℕ) → n ≤ last_kind time → n ≤ 7
seven-at_most true n h = h
seven-at_most false n h = omega arith

module _ (time : Bool) (c : List ℕ) where
  is-marked : Marked c → records.marked (get_or c 0 0) (get_or c 1 0) ≡ true
  is-marked m = rw (eq-eqb (get_or c 0 0) 0xA5 m.0, eq-eqb (get_or c 1 0) 0x5A m.1)

  marked-is : records.marked (get_or c 0 0) (get_or c 1 0) ≡ true → Marked c
  marked-is t =
      let q = and_both (eqb (get_or c 0 0) 0xA5) (eqb (get_or c 1 0) 0x5A) t in
      (eqb-true (get_or c 0 0) 0xA5 q.0, eqb-true (get_or c 1 0) 0x5A q.1)

  -- what a panel with or without time takes it for
  abbrev taken : Answer
  taken = taken_with time (records.read_first c)

  abbrev Answers : Answer → Type 0
  Answers a = RecordSays time c a (answer_number a)

  -- the tests of four bytes
  four_say : 4 ≤ length c → Answers (judged_with time (get_or c 0 0) (get_or c 1 0) (records.kind_byte c) (records.value_byte c))
  four_say four =
      either-told Answers (not (records.marked (get_or c 0 0) (get_or c 1 0)))
      (λ t. demands.mark four (λ m. true≢false (sym (is-marked m) ∙ not-true (records.marked (get_or c 0 0) (get_or c 1 0)) t)))
      (λ f. let m = marked-is (not-false (records.marked (get_or c 0 0) (get_or c 1 0)) f) in
      either-told Answers (not (leb (records.kind_byte c) (last_kind time)))
      (λ t. demands.kind four m (leb-false (records.kind_byte c) (last_kind time) (not-true (leb (records.kind_byte c) (last_kind time)) t)))
      (λ f. let k = leb-true (records.kind_byte c) (last_kind time) (not-false (leb (records.kind_byte c) (last_kind time)) f) in
      either-told Answers (not (kinds.allowed (kind_of (records.kind_byte c)) (records.value_byte c)))
      (λ t. demands.value four m k
      (λ a. true≢false (sym (is-allowed (records.kind_byte c) (records.value_byte c) a) ∙ not-true (kinds.allowed (kind_of (records.kind_byte c)) (records.value_byte c)) t)))
      (λ f. demands.good four m k
      (allowed-is (records.kind_byte c) (records.value_byte c) (not-false (kinds.allowed (kind_of (records.kind_byte c)) (records.value_byte c)) f)))))

  pub record_says : Answers taken
  record_says =
      by_test (eqb (length c) 0)
      (λ t. let z = eqb-true (length c) 0 t in subst Answers (sym (ap (taken_with time) (nothing_left c z))) (demands.end z))
      (λ f. let some = eqb-false (length c) 0 f in
      by_test (leb (length c) 3)
      (λ t. let l = leb-true (length c) 3 t in
      subst Answers (sym (ap (taken_with time) (one_to_three_left c some l))) (demands.remain (omega arith) l))
      (λ g. let four : 4 ≤ length c = leb-false (length c) 3 g in subst Answers (sym (taken_four_left time c four)) (four_say four)))

  record_answer_lem : (a : Answer) (n : ℕ) → RecordSays time c a n → a ≡ taken
  record_answer_lem a n (demands.remain l b) = sym (ap (taken_with time) (one_to_three_left c (λ z. omega arith) b))
  record_answer_lem a n (demands.mark l g) =
      rw (taken_four_left time c l, never (records.marked (get_or c 0 0) (get_or c 1 0)) (λ t. g (marked-is t)))
  record_answer_lem a n (demands.kind l m k) = rw (taken_four_left time c l, is-marked m, lt-leb (records.kind_byte c) (last_kind time) k)
  record_answer_lem a n (demands.value l m k g) =
      rw (
        taken_four_left time c l,
        is-marked m,
        le-leb (records.kind_byte c) (last_kind time) k,
        never (kinds.allowed (kind_of (records.kind_byte c)) (records.value_byte c)) (λ t. g (allowed-is (records.kind_byte c) (records.value_byte c) t)),
      )
  record_answer_lem a n (demands.end z) = sym (ap (taken_with time) (nothing_left c z))
  record_answer_lem a n (demands.good l m k v) =
      rw (
        taken_four_left time c l,
        is-marked m,
        le-leb (records.kind_byte c) (last_kind time) k,
        is-allowed (records.kind_byte c) (records.value_byte c) v,
      )

  record_number : (a : Answer) (n : ℕ) → RecordSays time c a n → n ≡ answer_number a
  record_number a n (demands.remain l b) = refl
  record_number a n (demands.mark l g) = refl
  record_number a n (demands.kind l m k) = refl
  record_number a n (demands.value l m k g) = refl
  record_number a n (demands.end z) = refl
  record_number a n (demands.good l m k v) = refl

  pub record_once : OneAnswer (RecordSays time c)
  record_once a b m n x y =
      let same = record_answer_lem a m x ∙ sym (record_answer_lem b n y) in
      (same, record_number a m x ∙ ap answer_number same ∙ sym (record_number b n y))

  -- a record that is taken has a kind that the panel knows
  abbrev KindIn : Answer → Type 0
  KindIn a = (r : Record) → a ≡ Ok (Some r) → kind_number r.kind ≤ last_kind time

  kind_in : (a : Answer) (n : ℕ) → RecordSays time c a n → KindIn a
  kind_in a n (demands.remain l b) r is = absurd (let z : ◌≡◌ {A = ℕ} 0 1 = cc in omega arith)
  kind_in a n (demands.mark l g) r is = absurd (let z : ◌≡◌ {A = ℕ} 0 1 = cc in omega arith)
  kind_in a n (demands.kind l m k) r is = absurd (let z : ◌≡◌ {A = ℕ} 0 1 = cc in omega arith)
  kind_in a n (demands.value l m k g) r is = absurd (let z : ◌≡◌ {A = ℕ} 0 1 = cc in omega arith)
  kind_in a n (demands.end z) r is = absurd (let z : ◌≡◌ {A = ℕ} 0 1 = cc in omega arith)
  kind_in a n (demands.good l m k v) r is =
      let same : kind_of (records.kind_byte c) ≡ r.kind = cc in
      rw (← same, number_again (records.kind_byte c) (seven-at_most time (records.kind_byte c) k)) k

  taken-kind : KindIn taken
  taken-kind = kind_in taken (answer_number taken) record_says

-- so it is with all records of a capture
unfoldable pub KindsIn : Bool → List Record → Type 0
KindsIn time [] = Unit {0}
KindsIn time (r ∷ rs) = (kind_number r.kind ≤ last_kind time) × KindsIn time rs

module _ (time : Bool) where
  read_on_in : (a : Answer) (c : List ℕ) → KindIn time c a → KindsIn time (contents time c).records → KindsIn time (read_on a (contents time c)).records
  unfolding KindsIn
  read_on_in (Ok (Some r)) c within more = (within r refl, more)
  read_on_in (Ok None) c within more = tt
  read_on_in (Err refusal) c within more = tt

  pub contents_in : (c : List ℕ) → KindsIn time (contents time c).records
  unfolding contents KindsIn
  contents_in [] = tt
  contents_in (a ∷ []) = tt
  contents_in (a ∷ b ∷ []) = tt
  contents_in (a ∷ b ∷ d ∷ []) = tt
  contents_in (a ∷ b ∷ d ∷ e ∷ c) = read_on_in (taken_with time (records.read_first (a ∷ b ∷ d ∷ e ∷ c))) c (taken-kind time (a ∷ b ∷ d ∷ e ∷ c)) (contents_in c)
