-- The starred examples of document 01 ("Example round") as document 02 changes them, and some of raw bytes, of the bounds on figures, of
-- signed figures, of lookups, of repeats, of replies set aside and of the round of a key, about the definitions that the contracts name: one
-- table, a row for each example.
--   plan, random, partner_list, bad_list, figures   K, U, T, M = 3, 2, 1, 1; the random list, its partner, one that is refused; tables of figures
--   changes                                         whole numbers at both ends of what is read back, and about zero
--   drawn, six_numbers                              number and list that raw bytes leave of a lent list; most of the example list as bytes
--   key_of, end_in, end_of, message                 a user's key; its airfield end, in a round and in round 7; its first message
--   sent_by, changed                                number and stage that a fresh end of a plan hands back; a first message of a signed figure
--   handed, asked_for, asked, part                  number and end handed back; what a reply to a set hands back, asked for a round and for
--                                                   round 7, and its part alone
--   answered_in, in_turn                            what airfield 1 hands back for set 5 in its round; what requests, set and round, are
--                                                   answered one behind the other: number, part and the stage that is left
--   looked_up                                       number and start that a lookup of a set hands back
--   tried                                           the numbers that the service and an airfield end have for a plan
--   planned, opened, pooled, finish_tells           a service with the plan; in a round; with the replies; what its finish tells
--   first_numbers, reply_numbers                    what airfield 1's elements for one place or block are answered, one behind the other
--   closed_5, finished_5                            a service behind the close with survivors 1 and 3, and behind the finish
--   four, finish_tells_four                         a round of four airfields with the replies that came; what its finish tells of four
--   Cases                                           THE TABLE
-- Assumes nothing: these are definitions.
use Rattle.std.specs.Prelude.{◌≡◌, true, List, [], ◌∷◌, ◌++◌, map, ℕ, ◌≤◌, ℤ, pos, negsuc, length, get_or, take, replicate}
use Rattle.std.proofs.Math.Option.{some}
use Rattle.std.proofs.Common.{lit<}
use Rattle.algebra.specs.Residue.{inverse}
use Rattle.scheme.specs.Lists.{span}
use Rattle.scheme.specs.Scheme.{q, sixteen, plan_good, counts, signed, list_length, key_length, start_refusal, key_refusal, key_left}
use Rattle.scheme.specs.Drawn.{list_refusal, list_left}
use Rattle.scheme.specs.Promise.{Table, shown}
use Rattle.scheme.specs.Signed.{residue}
use Rattle.scheme.specs.Delta as Delta
use Rattle.scheme.specs.Modular.{sixteen_field}
use Rattle.solve.specs.Solve.{laws16}
use Rattle.plan.specs.declared.Plan.{Plan}
use Rattle.plan.specs.declared.Use.{Use}
use Rattle.plan.specs.declared.Use.TheVariants.{Counts, Signed}
use Rattle.plan.specs.Plan.{plan_of, code_plan}
use Rattle.plan.specs.Lengths.{largest_figure}
use Rattle.plan.specs.Found.{found}
use Rattle.client.specs.declared.Stage.{Stage}
use Rattle.client.specs.declared.Stage.TheVariants.{Fresh, Sent, Answered}
use Rattle.client.specs.declared.Client.{Client}
use Rattle.client.specs.Client.{Moved}
use Rattle.client.specs.Client.{begun, first_answer, message_left, answer_refusal, reply_answer, part_of}
use Rattle.reading.specs.Read.{Refused, Value}
use Rattle.reading.specs.Given as given
use Rattle.reading.specs.Reading.{reading, residue_answer}
use Rattle.service.specs.declared.Service.{Service}
use Rattle.service.specs.Calls.{new_service, plan_step, open_step, first_step, close_step, reply_step}
use Rattle.finish.specs.Finish.{Finished}
use Rattle.finish.specs.Finish.{finish_step}

-- ---- PLANS, LISTS AND FIGURES
abbrev pub plan : Plan
plan = code_plan 3 2 1 1

abbrev pub random : List ℕ
random = 100 ∷ 200 ∷ 300 ∷ 12 ∷ 60 ∷ 40 ∷ 120 ∷ []

-- what shows with the figures 10, 25, 30 the same as random with 10, 20, 30
abbrev pub partner_list : List ℕ
partner_list = 100 ∷ 195 ∷ 300 ∷ 32780 ∷ 60 ∷ 40 ∷ 32888 ∷ []

abbrev pub bad_list : List ℕ
bad_list = 100 ∷ 200 ∷ 300 ∷ 12 ∷ 60 ∷ 40 ∷ 65521 ∷ []

abbrev pub figures : (a b c : ℕ) → Table
figures a b c k = get_or (0 ∷ a ∷ b ∷ c ∷ []) k 0 ∷ []

-- ---- WHOLE NUMBERS: `negsuc n` is −(n + 1)
abbrev pub changes : List ℤ
changes = negsuc 32759 ∷ negsuc 13 ∷ negsuc 0 ∷ pos 0 ∷ pos 1 ∷ pos 32760 ∷ []

-- ---- RAW BYTES
-- of a lent list of seven sevens
unfoldable pub drawn : (bytes : List ℕ) → ℕ × List ℕ
drawn s = (list_refusal sixteen (plan_of plan) s 7, list_left sixteen (plan_of plan) s (replicate 7 7))

-- 100 200 300 12 60 40, each as two bytes
abbrev pub six_numbers : (rest : List ℕ) → List ℕ
six_numbers s = 100 ∷ 0 ∷ 200 ∷ 0 ∷ 44 ∷ 1 ∷ 12 ∷ 0 ∷ 60 ∷ 0 ∷ 40 ∷ 0 ∷ s

-- ---- AIRFIELD ENDS
-- what the key maker leaves in a buffer of four zeros
unfoldable pub key_from : (list : List ℕ) → (k : ℕ) → List ℕ
key_from xs k = key_left sixteen (plan_of plan) k xs (replicate 4 0)

unfoldable pub key_of : (k : ℕ) → List ℕ
key_of = key_from random

abbrev pub end_in : (round k : ℕ) → Stage → Client
end_in r k g = record { plan = plan; user = k; usage = Counts; round = r; stage = g }

-- in round 7, as every end here of which no round is told
abbrev pub end_of : (k : ℕ) → Stage → Client
end_of = end_in 7

-- what a fresh end leaves in a buffer that held 7
unfoldable pub message : (k : ℕ) → (key figures : List ℕ) → List ℕ
message k ks fs = message_left sixteen (end_of k Fresh) ks fs (7 ∷ [])

-- as user 1, into a buffer of the right length
unfoldable pub sent_by : Plan → Use → (key figures : List ℕ) → ℕ × Stage
sent_by p u ks fs =
    let answer = first_answer sixteen (record { plan = p; user = 1; usage = u; round = 7; stage = Fresh }) ks fs (length fs) in
    (answer.number, answer.client.stage)

-- what a fresh end for signed figures leaves in a buffer that held 7
unfoldable pub changed : (k : ℕ) → (figures : List ℕ) → List ℕ
changed k fs = message_left sixteen (record { plan = plan; user = k; usage = Signed; round = 7; stage = Fresh }) (key_of k) fs (7 ∷ [])

abbrev pub handed : (number : ℕ) → Client → Moved
handed n c = record { number = n; client = c }

-- what a reply to the set hands back: number and end, and the part
unfoldable pub asked_for : (set round : ℕ) → Client → Moved × List ℕ
asked_for v r c = (reply_answer sixteen c (key_of c.user) v r, part_of sixteen c (key_of c.user) v r)

abbrev pub asked : (set : ℕ) → Client → Moved × List ℕ
asked v = asked_for v 7

-- the part, of an end that has sent
abbrev pub part : (set k : ℕ) → List ℕ
part v k = (asked v (end_of k Sent)).1

-- airfield 1, fresh in a round, sends its figure 10 and is asked for set 5 of that round
unfoldable pub answered_in : (round : ℕ) → Moved × List ℕ
answered_in r = asked_for 5 r (first_answer sixteen (end_in r 1 Fresh) (key_of 1) (10 ∷ []) 1).client

unfoldable pub in_turn : (requests : List (ℕ × ℕ)) → Client → List (ℕ × List ℕ × Stage)
in_turn [] c = []
in_turn ((v, r) ∷ l) c =
    let answer = asked_for v r c in
    (answer.0.number, answer.1, answer.0.client.stage) ∷ in_turn l answer.0.client

unfoldable pub looked_up : Plan → (k set : ℕ) → ℕ × ℕ
looked_up p k v = ((found (plan_of p) k v).number, (found (plan_of p) k v).start)

-- ---- THE SERVICE
unfoldable pub tried : Plan → List ℕ
tried p = (plan_step new_service p).number ∷ start_refusal (plan_of p) 1 ∷ []

unfoldable pub planned : Service
planned = (plan_step new_service plan).service

unfoldable pub opened : (round : ℕ) → Service
opened r = (open_step planned r).service

-- users and their elements, of the one place and the one block
unfoldable pub firsts : List (ℕ × ℕ) → Service → Service
firsts [] s = s
firsts ((k, x) ∷ l) s = firsts l (first_step sixteen s k 0 x).service

unfoldable pub replies : List (ℕ × ℕ) → Service → Service
replies [] s = s
replies ((k, y) ∷ l) s = replies l (reply_step sixteen s k 0 y).service

unfoldable pub pooled : (sent answered : List (ℕ × ℕ)) → Service
pooled xs ys = replies ys (close_step (firsts xs (opened 7))).service

unfoldable pub first_numbers : (elements : List ℕ) → Service → List ℕ
first_numbers [] s = []
first_numbers (x ∷ l) s = let t = first_step sixteen s 1 0 x in t.number ∷ first_numbers l t.service

unfoldable pub reply_numbers : (elements : List ℕ) → Service → List ℕ
reply_numbers [] s = []
reply_numbers (y ∷ l) s = let t = reply_step sixteen s 1 0 y in t.number ∷ reply_numbers l t.service

-- survivors 1 and 3: before any reply, and behind the finish
unfoldable pub closed_5 : Service
closed_5 = pooled ((1, 110) ∷ (3, 330) ∷ []) []

unfoldable pub finished_5 : Service
finished_5 = (finish_step sixteen laws16 (pooled ((1, 110) ∷ (3, 330) ∷ []) ((1, 220) ∷ (3, 112) ∷ []))).service

-- number, user set aside and total
unfoldable pub finish_tells : Finished → List ℕ
finish_tells f = f.number ∷ f.aside ∷ take 1 f.totals

-- survivors 1 and 3, with their replies; survivors 1, 2 and 3, with the replies that came
unfoldable pub finish_tells_5 : (a c : ℕ) → List ℕ
finish_tells_5 a c = finish_tells (finish_step sixteen laws16 (pooled ((1, 110) ∷ (3, 330) ∷ []) ((1, a) ∷ (3, c) ∷ [])))

unfoldable pub finish_tells_7 : (answered : List (ℕ × ℕ)) → List ℕ
finish_tells_7 ys = finish_tells (finish_step sixteen laws16 (pooled ((1, 110) ∷ (2, 220) ∷ (3, 330) ∷ []) ys))

-- four airfields under 4, 2, 1, 1, figures 10 20 30 40, masks 100 200 300 600 and noise 120 for the set of all: with the replies that came
unfoldable pub four : (answered : List (ℕ × ℕ)) → Service
four ys =
    let s = (open_step (plan_step new_service (code_plan 4 2 1 1)).service 7).service in
    replies ys (close_step (firsts ((1, 110) ∷ (2, 220) ∷ (3, 330) ∷ (4, 640) ∷ []) s)).service

unfoldable pub finish_tells_four : (a b c d : ℕ) → List ℕ
finish_tells_four a b c d = finish_tells (finish_step sixteen laws16 (four ((1, a) ∷ (2, b) ∷ (3, c) ∷ (4, d) ∷ [])))

-- ---- THE TABLE
pub record Cases : Type 0 where
  -- keys and messages
  pub inverses : map (inverse q) (2 ∷ 3 ∷ 4 ∷ 5 ∷ []) ≡ 32761 ∷ 43681 ∷ 49141 ∷ 52417 ∷ []
  pub key_1 : key_of 1 ≡ 100 ∷ 154 ∷ 220 ∷ 340 ∷ []
  pub key_2 : key_of 2 ≡ 200 ∷ 103 ∷ 22017 ∷ 230 ∷ []
  pub key_3 : key_of 3 ≡ 300 ∷ 112 ∷ 133 ∷ 174 ∷ []
  pub messages : map (λ k. message k (key_of k) (figures 10 20 30 k)) (1 ∷ 2 ∷ 3 ∷ []) ≡ (110 ∷ []) ∷ (220 ∷ []) ∷ (330 ∷ []) ∷ []
  pub parts_5 : map (part 5) (1 ∷ 3 ∷ []) ≡ (220 ∷ []) ∷ (112 ∷ []) ∷ []
  pub parts_7 : map (part 7) (1 ∷ 2 ∷ 3 ∷ []) ≡ (340 ∷ []) ∷ (230 ∷ []) ∷ (174 ∷ []) ∷ []
  -- totals: of set 5; of set 7 with any two replies, and with all three
  pub survivors_5 : (close_step (firsts ((1, 110) ∷ (3, 330) ∷ []) (opened 7))).set ≡ 5
  pub total_5 : finish_tells_5 220 112 ≡ 0 ∷ 0 ∷ 40 ∷ []
  pub total_7_by_1_2 : finish_tells_7 ((1, 340) ∷ (2, 230) ∷ []) ≡ 0 ∷ 0 ∷ 60 ∷ []
  pub total_7_by_1_3 : finish_tells_7 ((1, 340) ∷ (3, 174) ∷ []) ≡ 0 ∷ 0 ∷ 60 ∷ []
  pub total_7_by_2_3 : finish_tells_7 ((2, 230) ∷ (3, 174) ∷ []) ≡ 0 ∷ 0 ∷ 60 ∷ []
  pub total_7_by_all : finish_tells_7 ((1, 340) ∷ (2, 230) ∷ (3, 174) ∷ []) ≡ 0 ∷ 0 ∷ 60 ∷ []
  -- three replies show that one is wrong; two do not
  pub wrong_7 : finish_tells_7 ((1, 340) ∷ (2, 230) ∷ (3, 175) ∷ []) ≡ 16 ∷ 0 ∷ 0 ∷ []
  pub wrong_5 : finish_tells_5 221 113 ≡ 0 ∷ 0 ∷ 48 ∷ []
  -- set 5, colluder 1, and the table 10, 25, 30
  pub good : plan_good (plan_of plan) ≡ true
  pub partner : Delta.partner sixteen (plan_of plan) (sixteen_field 3 2 (lit< tt)) 1 (figures 10 20 30) (figures 10 25 30) random ≡ partner_list
  pub same_shown : shown sixteen (plan_of plan) 5 1 random (figures 10 20 30) ≡ shown sixteen (plan_of plan) 5 1 partner_list (figures 10 25 30)
  -- elements: 10 and 65511 give 0; 65521 is none, for the key maker, an end and the service
  pub sum_wraps : message 1 (65511 ∷ 154 ∷ 220 ∷ 340 ∷ []) (10 ∷ []) ≡ 0 ∷ []
  pub list_3 : key_refusal sixteen (plan_of plan) 1 bad_list 4 ≡ 3
  pub list_3_left : key_from bad_list 1 ≡ replicate 4 0
  pub figure_3 : first_answer sixteen (end_of 1 Fresh) (key_of 1) (65521 ∷ []) 1 ≡ handed 3 (end_of 1 Fresh)
  pub first_3 : (first_step sixteen (opened 7) 1 0 65521).number ≡ 3
  -- figures: of three and of eight airfields the bound is taken and the next number refused; 3 of any place comes before 32
  pub bounds : map (λ p. largest_figure sixteen counts (plan_of p)) (plan ∷ code_plan 4 3 1 1 ∷ code_plan 8 2 1 1 ∷ code_plan 9 2 1 1 ∷ [])
      ≡ 21840 ∷ 16380 ∷ 8190 ∷ 0 ∷ []
  pub figure_32 : first_answer sixteen (end_of 1 Fresh) (1 ∷ 154 ∷ 220 ∷ 340 ∷ []) (65520 ∷ []) 1 ≡ handed 32 (end_of 1 Fresh)
  pub figure_32_left : message 1 (1 ∷ 154 ∷ 220 ∷ 340 ∷ []) (65520 ∷ []) ≡ 7 ∷ []
  pub three : map (λ x. sent_by plan Counts (replicate 4 0) (x ∷ [])) (21840 ∷ 21841 ∷ []) ≡ (0, Sent) ∷ (32, Fresh) ∷ []
  pub eight : map (λ x. sent_by (code_plan 8 2 1 1) Counts (replicate 128 0) (x ∷ [])) (8190 ∷ 8191 ∷ []) ≡ (0, Sent) ∷ (32, Fresh) ∷ []
  pub last_figure : sent_by (code_plan 4 3 1 1) Counts (replicate 6 0) (0 ∷ 16381 ∷ []) ≡ (32, Fresh)
  pub three_first : map (sent_by (code_plan 4 3 1 1) Counts (replicate 6 0)) ((16381 ∷ 65521 ∷ []) ∷ (65521 ∷ 16381 ∷ []) ∷ []) ≡ replicate 2 (3, Fresh)
  pub key_first : sent_by plan Counts (replicate 3 0 ++ 65521 ∷ []) (21841 ∷ []) ≡ (3, Fresh)
  -- signed figures: 0 to the bound and the residues of as many below zero are taken, the numbers between refused; 3 comes before 32
  pub signed_bounds : map (λ p. largest_figure sixteen signed (plan_of p)) (plan ∷ code_plan 4 3 1 1 ∷ code_plan 8 2 1 1 ∷ code_plan 9 2 1 1 ∷ [])
      ≡ 10920 ∷ 8190 ∷ 4095 ∷ 0 ∷ []
  pub signed_three : map (λ x. sent_by plan Signed (replicate 4 0) (x ∷ [])) (0 ∷ 10920 ∷ 10921 ∷ 54600 ∷ 54601 ∷ 65520 ∷ [])
      ≡ (0, Sent) ∷ (0, Sent) ∷ (32, Fresh) ∷ (32, Fresh) ∷ (0, Sent) ∷ (0, Sent) ∷ []
  pub signed_eight : map (λ x. sent_by (code_plan 8 2 1 1) Signed (replicate 128 0) (x ∷ [])) (4095 ∷ 4096 ∷ 61425 ∷ 61426 ∷ [])
      ≡ (0, Sent) ∷ (32, Fresh) ∷ (32, Fresh) ∷ (0, Sent) ∷ []
  pub signed_three_first : map (sent_by (code_plan 4 3 1 1) Signed (replicate 6 0)) ((8191 ∷ 65521 ∷ []) ∷ (65521 ∷ 8191 ∷ []) ∷ []) ≡ replicate 2 (3, Fresh)
  -- −32760, −14, −1, 0, 1 and 32760 and their residues; the first number that is no total, for either use; the way in, of eight airfields
  pub residues : map (residue sixteen) changes ≡ 32761 ∷ 65507 ∷ 65520 ∷ 0 ∷ 1 ∷ 32760 ∷ []
  pub read_back : map (λ z. reading sixteen signed (residue sixteen z)) changes ≡ map Value changes
  pub half : map (reading sixteen signed) (32760 ∷ 32761 ∷ []) ≡ Value (pos 32760) ∷ Value (negsuc 32759) ∷ []
  pub read_counts : map (reading sixteen counts) (0 ∷ 32761 ∷ 65520 ∷ []) ≡ Value (pos 0) ∷ Value (pos 32761) ∷ Value (pos 65520) ∷ []
  pub read_3 : map (λ u. reading sixteen u 65521) (counts ∷ signed ∷ []) ≡ replicate 2 (Refused 3)
  pub way_in : map (residue_answer sixteen (plan_of (code_plan 8 2 1 1))) (negsuc 4095 ∷ negsuc 4094 ∷ pos 4095 ∷ pos 4096 ∷ [])
      ≡ given.Refused 32 ∷ given.Element 61426 ∷ given.Element 4095 ∷ given.Refused 32 ∷ []
  pub way_in_1 : residue_answer sixteen (plan_of (code_plan 9 2 1 1)) (negsuc 0) ≡ given.Refused 1
  -- −14 of airfield 1 and 4 of airfield 3: set 5, and the total −10
  pub changes_sent : map (λ (c : ℕ × ℕ). changed c.0 (c.1 ∷ [])) ((1, 65507) ∷ (3, 4) ∷ []) ≡ (86 ∷ []) ∷ (304 ∷ []) ∷ []
  pub changes_total : finish_tells (finish_step sixteen laws16 (pooled ((1, 86) ∷ (3, 304) ∷ []) ((1, 220) ∷ (3, 112) ∷ []))) ≡ 0 ∷ 0 ∷ 65511 ∷ []
  pub changes_read : reading sixteen signed 65511 ≡ Value (negsuc 9)
  -- raw bytes: 65521 to 65535 are skipped, 65520 is not; what lies behind a full list is unused; a byte that stands alone is no number
  pub bytes_full : drawn (six_numbers (120 ∷ 0 ∷ [])) ≡ (0, random)
  pub bytes_skipped : drawn (241 ∷ 255 ∷ six_numbers (255 ∷ 255 ∷ 120 ∷ 0 ∷ 241 ∷ [])) ≡ (0, random)
  pub bytes_65520 : drawn (six_numbers (240 ∷ 255 ∷ 120 ∷ 0 ∷ [])) ≡ (0, 100 ∷ 200 ∷ 300 ∷ 12 ∷ 60 ∷ 40 ∷ 65520 ∷ [])
  pub bytes_31 : drawn (six_numbers (241 ∷ 255 ∷ 120 ∷ [])) ≡ (31, replicate 7 7)
  pub bytes_2 : list_refusal sixteen (plan_of plan) [] 6 ≡ 2
  pub bytes_1 : list_refusal sixteen (plan_of (code_plan 3 3 1 1)) [] 6 ≡ 1
  -- plans
  pub sixteen_blocks : tried (code_plan 3 2 1 16) ≡ 0 ∷ 0 ∷ []
  pub seventeen_blocks : tried (code_plan 3 2 1 17) ≡ 1 ∷ 1 ∷ []
  pub threshold_is_users : tried (code_plan 3 3 1 1) ≡ 1 ∷ 1 ∷ []
  pub threshold_is_collusion : tried (code_plan 3 2 2 1) ≡ 1 ∷ 1 ∷ []
  pub list_4080 : list_length (plan_of (code_plan 8 2 1 16)) ≡ 4080
  pub keys_2048 : map (key_length (plan_of (code_plan 8 2 1 16))) (span 8 1) ≡ replicate 8 2048
  -- rounds: 0 never opens; after the last 32-bit number no 32-bit number opens
  pub round_0 : (open_step planned 0).number ≡ 17
  pub last_round : (open_step planned 4294967295).number ≡ 0
  pub none_after : (r : ℕ) → r ≤ 4294967295 → (open_step (opened 4294967295) r).number ≡ 17
  -- sets asked of ends that have sent, and of one that has answered 5
  pub set_1 : asked 1 (end_of 1 Sent) ≡ (handed 5 (end_of 1 Sent), [])
  pub set_5_of_2 : asked 5 (end_of 2 Sent) ≡ (handed 6 (end_of 2 Sent), [])
  pub set_5 : asked 5 (end_of 1 Sent) ≡ (handed 0 (end_of 1 (Answered 5)), 220 ∷ [])
  pub then_set_7 : asked 7 (end_of 1 (Answered 5)) ≡ (handed 19 (end_of 1 (Answered 5)), [])
  -- the round of a key may be 0 and the last 32-bit number; a request for another is 33, also where only the high or only the low
  -- sixteen bits differ, or one bit
  pub started : map (begun plan 1 Counts) (0 ∷ 4294967295 ∷ [])
      ≡ map (λ r. record { number = 0; client = some (end_in r 1 Fresh) }) (0 ∷ 4294967295 ∷ [])
  pub own_rounds : map answered_in (0 ∷ 7 ∷ 4294967295 ∷ [])
      ≡ map (λ r. (handed 0 (end_in r 1 (Answered 5)), 220 ∷ [])) (0 ∷ 7 ∷ 4294967295 ∷ [])
  pub high_bits : asked_for 5 7 (end_in 196615 1 Sent) ≡ (handed 33 (end_in 196615 1 Sent), [])
  pub low_bits : asked_for 5 196608 (end_in 196615 1 Sent) ≡ (handed 33 (end_in 196615 1 Sent), [])
  pub of_round_0 : map (λ r. asked_for 5 r (end_in 0 1 Sent)) (1 ∷ 65536 ∷ 2147483648 ∷ 4294967295 ∷ [])
      ≡ replicate 4 (handed 33 (end_in 0 1 Sent), [])
  pub of_last_round : map (λ r. asked_for 5 r (end_in 4294967295 1 Sent)) (0 ∷ 65535 ∷ 2147483647 ∷ 4294967294 ∷ [])
      ≡ replicate 4 (handed 33 (end_in 4294967295 1 Sent), [])
  -- requests of airfield 2 that break every later rule too, all but the last for round 8: of a fresh end; of one that has answered 3, with
  -- too short a key, with 65521 in its key, for set 1, for set 5, for set 7
  pub reply-order :
      answer_refusal sixteen (end_of 2 Fresh) (65521 ∷ []) 1 8
      ∷ answer_refusal sixteen (end_of 2 (Answered 3)) (65521 ∷ []) 1 8
      ∷ answer_refusal sixteen (end_of 2 (Answered 3)) (200 ∷ 103 ∷ 22017 ∷ 65521 ∷ []) 1 8
      ∷ map (λ (c : ℕ × ℕ). answer_refusal sixteen (end_of 2 (Answered 3)) (key_of 2) c.0 c.1) ((1, 8) ∷ (5, 8) ∷ (7, 8) ∷ (7, 7) ∷ [])
      ≡ 18 ∷ 2 ∷ 3 ∷ 5 ∷ 6 ∷ 33 ∷ 19 ∷ []
  -- notices for round 6: to an end that has sent, which then answers its own; to one that has answered that very set; to a fresh one
  pub early_notices : in_turn ((7, 6) ∷ (5, 7) ∷ (7, 7) ∷ []) (end_of 1 Sent)
      ≡ (33, [], Sent) ∷ (0, 220 ∷ [], Answered 5) ∷ (19, [], Answered 5) ∷ []
  pub late_notices : in_turn ((5, 6) ∷ (5, 7) ∷ (7, 6) ∷ (5, 7) ∷ []) (end_of 1 (Answered 5))
      ≡ (33, [], Answered 5) ∷ (0, 220 ∷ [], Answered 5) ∷ (33, [], Answered 5) ∷ (0, 220 ∷ [], Answered 5) ∷ []
  pub fresh_notices : in_turn ((5, 6) ∷ (5, 7) ∷ []) (end_of 1 Fresh) ≡ replicate 2 (18, [], Fresh)
  -- lookups: every set of three airfields, and two with a fourth; the first part and the last of a key of 2048; 1 comes before 4, 4 before 5, 5 before 6
  pub lookups_1 : map (looked_up plan 1) (span 10 0)
      ≡ (5, 0) ∷ (5, 0) ∷ (5, 0) ∷ (0, 1) ∷ (5, 0) ∷ (0, 2) ∷ (6, 0) ∷ (0, 3) ∷ (5, 0) ∷ (5, 0) ∷ []
  pub lookups_2 : map (looked_up plan 2) (3 ∷ 4 ∷ 5 ∷ 6 ∷ 7 ∷ []) ≡ (0, 1) ∷ (5, 0) ∷ (6, 0) ∷ (0, 2) ∷ (0, 3) ∷ []
  pub lookups_3 : map (looked_up plan 3) (3 ∷ 4 ∷ 5 ∷ 6 ∷ 7 ∷ []) ≡ (6, 0) ∷ (5, 0) ∷ (0, 1) ∷ (0, 2) ∷ (0, 3) ∷ []
  pub lookups_8 : map (looked_up (code_plan 8 2 1 16) 1) (3 ∷ 255 ∷ 259 ∷ []) ≡ (0, 16) ∷ (0, 2032) ∷ (5, 0) ∷ []
  pub lookup_4 : map (λ k. looked_up plan k 1) (0 ∷ 4 ∷ []) ≡ replicate 2 (4, 0)
  pub lookup_first : looked_up (code_plan 3 3 1 1) 0 1 ≡ (1, 0)
  -- repeats: of 0, of 110 and of 65520; another element is 13 and the first stays; 3, 12 and 14 come before
  pub first_repeats : map (λ x. first_numbers (x ∷ x ∷ 111 ∷ x ∷ 65521 ∷ x ∷ []) (opened 7)) (0 ∷ 110 ∷ 65520 ∷ [])
      ≡ replicate 3 (0 ∷ 0 ∷ 13 ∷ 0 ∷ 3 ∷ 0 ∷ [])
  pub reply_repeats : map (λ y. reply_numbers (y ∷ y ∷ 111 ∷ y ∷ 65521 ∷ y ∷ []) closed_5) (0 ∷ 110 ∷ 65520 ∷ [])
      ≡ replicate 3 (0 ∷ 0 ∷ 13 ∷ 0 ∷ 3 ∷ 0 ∷ [])
  pub late_repeats : first_numbers (110 ∷ 111 ∷ []) closed_5 ++ first_numbers (110 ∷ []) finished_5 ++ reply_numbers (220 ∷ []) finished_5
      ≡ replicate 4 12
  pub not_survivor : (reply_step sixteen closed_5 2 0 220).number ≡ 14
  pub total-5-repeated :
      finish_tells (finish_step sixteen laws16
      (pooled ((1, 110) ∷ (1, 110) ∷ (3, 330) ∷ (1, 111) ∷ []) ((1, 220) ∷ (3, 112) ∷ (1, 220) ∷ (3, 113) ∷ []))) ≡ 0 ∷ 0 ∷ 40 ∷ []
  -- one false reply of four, whosever it is; two; two that agree with each other and with a third; U + 1, and then one more
  pub all_four : finish_tells_four 640 430 324 260 ≡ 0 ∷ 0 ∷ 100 ∷ []
  pub one_aside :
      finish_tells_four 0 430 324 260 ∷ finish_tells_four 640 65520 324 260 ∷ finish_tells_four 640 430 325 260 ∷ finish_tells_four 640 430 324 259
      ∷ [] ≡ map (λ k. 0 ∷ k ∷ 100 ∷ []) (1 ∷ 2 ∷ 3 ∷ 4 ∷ [])
  pub two_false : finish_tells_four 641 430 324 261 ≡ 16 ∷ 0 ∷ 0 ∷ []
  pub two_agree : finish_tells_four 640 430 384 320 ≡ 0 ∷ 2 ∷ 1300 ∷ []
  pub three_of_four : finish_tells (finish_step sixteen laws16 (four ((1, 640) ∷ (2, 430) ∷ (4, 261) ∷ []))) ≡ 16 ∷ 0 ∷ 0 ∷ []
  pub then-a-fourth :
      finish_tells (finish_step sixteen laws16
      (reply_step sixteen (finish_step sixteen laws16 (four ((1, 640) ∷ (2, 430) ∷ (4, 261) ∷ []))).service 3 0 324).service) ≡ 0 ∷ 4 ∷ 100 ∷ []
