-- Written by tests/test_examples.py: a write with an eviction and a stop-loss store, outputs of reads, the batches of a turn and of a
-- resumed one, what a recovery rebuilds, where a page is open too, the line that ends one, the step of a line without a phase byte,
-- refusals in sequence, and a list of dirty pages. Assumes nothing.
use mathlib.Core.Path.{◌≡◌, refl}
use mathlib.Core.List.{List, [], ◌∷◌, ◌++◌, map}
use Prim.Native.Nat.{ℕ, ◌*◌}
use lib.ListN.{replicate, set}
use Rattle.words.specs.Bytes.{part}
use Rattle.candidates.specs.declared.Choice.TheVariants.{None, Several}
use Rattle.answer.specs.declared.Answer.{Answer}
use Rattle.answer.specs.declared.Answer.TheVariants.{Done, Blank, Cut, Refused}
use Rattle.cache.specs.Cache.{empty_cache}
use Rattle.control.specs.Control.{Cell}
use Rattle.journal.specs.Journal.{media}
use Rattle.calls.specs.Call.{Module, Called, access_refusal}
use Rattle.calls.specs.Read.{Reading, read}
use Rattle.calls.specs.Write.{write}
use Rattle.calls.specs.Turn.{Batch, turn_refusal, turn_front, turn_batches, batches_of, before_last}
use Rattle.calls.specs.Recovery.{to, bad, by_choice, line_step, so_far, failed, rebuild_blocks, rebuild_nodes, recover_rebuilt}
use Rattle.calls.specs.DirtyPages.{dirty_pages}
use Rattle.calls.proofs.Run.{run}
use Rattle.calls.proofs.Sparse.{sparse, up_to}

-- what a call answers, and what it leaves in the cache and in one cell
record Seen : Type 0 where
  answer : Answer
  cache : List ℕ
  cell : List ℕ

seen : ℕ → Called → Seen
seen n c = record { answer = c.answer; cache = c.after.cache; cell = part c.after.array (72 * n) 72 }

-- what a read answers, and what it leaves in its output
given : Reading → Answer × List ℕ
given r = (r.called.answer, r.output)

-- the cell numbers of each batch, and its section
shapes : List Batch → List (List ℕ × List ℕ)
shapes bs = map (λ (b : Batch). (map (λ (c : Cell). c.number) b.cells, b.section)) bs

start : Module
start =
    record {
      array = sparse ((
        0,
        220 ∷ 60 ∷ 255 ∷ 13 ∷ 87 ∷ 106 ∷ 42 ∷ 62 ∷ 20 ∷ 236 ∷ 246 ∷ 59 ∷ 76 ∷ 102 ∷ 119 ∷ 162 ∷ 155 ∷ 70 ∷ 220 ∷ 226 ∷
            68 ∷ 211 ∷ 133 ∷ 233 ∷ 231 ∷ 128 ∷ 125 ∷ 56 ∷ 48 ∷ 199 ∷ 33 ∷ 96 ∷ 248 ∷ 71 ∷ 101 ∷ 225 ∷ 209 ∷ 193 ∷ 178 ∷ 36 ∷
            92 ∷ 63 ∷ 1 ∷ 44 ∷ 29 ∷ 43 ∷ 72 ∷ 101 ∷ 13 ∷ 246 ∷ 62 ∷ 10 ∷ 16 ∷ 61 ∷ 138 ∷ 226 ∷ 87 ∷ 120 ∷ 216 ∷ 246 ∷
            201 ∷ 101 ∷ 10 ∷ 166 ∷ 1 ∷ 125 ∷ 53 ∷ 239 ∷ 109 ∷ 38 ∷ 65 ∷ 77 ∷ 146 ∷ 57 ∷ 125 ∷ 232 ∷ 194 ∷ 229 ∷ 154 ∷ 44 ∷
            113 ∷ 93 ∷ 213 ∷ 245 ∷ 107 ∷ 57 ∷ 219 ∷ 93 ∷ 39 ∷ 190 ∷ 246 ∷ 222 ∷ 43 ∷ 255 ∷ 223 ∷ 59 ∷ 147 ∷ 70 ∷ 241 ∷ 95 ∷
            17 ∷ 167 ∷ 23 ∷ 203 ∷ 103 ∷ 168 ∷ 90 ∷ 32 ∷ 70 ∷ 129 ∷ 101 ∷ 47 ∷ 61 ∷ 21 ∷ 131 ∷ 212 ∷ 4 ∷ 176 ∷ 40 ∷ 22 ∷
            70 ∷ 25 ∷ 123 ∷ 157 ∷ 247 ∷ 20 ∷ 70 ∷ 43 ∷ 97 ∷ 250 ∷ 76 ∷ 85 ∷ 100 ∷ 50 ∷ 209 ∷ 92 ∷ 1 ∷ 176 ∷ 162 ∷ 212 ∷
            138 ∷ 143 ∷ 187 ∷ 169 ∷ 78 ∷ 92 ∷ 228 ∷ 186 ∷ 26 ∷ 15 ∷ 80 ∷ 75 ∷ 193 ∷ 96 ∷ 146 ∷ 118 ∷ 74 ∷ 143 ∷ 30 ∷ 247 ∷
            90 ∷ 175 ∷ 180 ∷ 78 ∷ 16 ∷ 78 ∷ 185 ∷ 129 ∷ 73 ∷ 226 ∷ 123 ∷ 78 ∷ 58 ∷ 183 ∷ 132 ∷ 151 ∷ 65 ∷ 9 ∷ 111 ∷ 179 ∷
            142 ∷ 127 ∷ 93 ∷ 110 ∷ 95 ∷ 201 ∷ 18 ∷ 223 ∷ 15 ∷ 78 ∷ 78 ∷ 110 ∷ 52 ∷ 5 ∷ 135 ∷ 47 ∷ 85 ∷ 36 ∷ 54 ∷ 158 ∷
            12 ∷ 217 ∷ 148 ∷ 211 ∷ 221 ∷ 253 ∷ 195 ∷ 158 ∷ 1 ∷ 91 ∷ 135 ∷ 18 ∷ 162 ∷ 13 ∷ 48 ∷ 55 ∷ [],
      )
          ∷ (
            18216,
            85 ∷ 209 ∷ 6 ∷ 207 ∷ 203 ∷ 178 ∷ 233 ∷ 230 ∷ 181 ∷ 44 ∷ 136 ∷ 59 ∷ 235 ∷ 225 ∷ 50 ∷ 45 ∷ 180 ∷ 246 ∷ 34 ∷ 202 ∷
                246 ∷ 136 ∷ 90 ∷ 191 ∷ 68 ∷ 200 ∷ 38 ∷ 163 ∷ 183 ∷ 211 ∷ 115 ∷ 64 ∷ 148 ∷ 74 ∷ 129 ∷ 194 ∷ 182 ∷ 164 ∷ 171 ∷ 168 ∷
                84 ∷ 232 ∷ 103 ∷ 59 ∷ 187 ∷ 194 ∷ 15 ∷ 45 ∷ 136 ∷ 78 ∷ 171 ∷ 44 ∷ 172 ∷ 89 ∷ 62 ∷ 79 ∷ 106 ∷ 82 ∷ 171 ∷ 162 ∷
                195 ∷ 1 ∷ 88 ∷ 241 ∷ 3 ∷ 169 ∷ 29 ∷ 20 ∷ 41 ∷ 91 ∷ 158 ∷ 139 ∷ [],
          )
          ∷ (18656, 3 ∷ [])
          ∷ (
            279,
            42 ∷ 126 ∷ 169 ∷ 123 ∷ 168 ∷ 96 ∷ 122 ∷ 18 ∷ 232 ∷ 58 ∷ 118 ∷ 90 ∷ 201 ∷ 231 ∷ 45 ∷ 250 ∷ 31 ∷ 255 ∷ 47 ∷ 121 ∷
                134 ∷ 148 ∷ 181 ∷ 147 ∷ 130 ∷ 178 ∷ 179 ∷ 185 ∷ 54 ∷ 24 ∷ 65 ∷ 58 ∷ 181 ∷ 243 ∷ 177 ∷ 151 ∷ 215 ∷ 174 ∷ 165 ∷ 227 ∷
                95 ∷ 199 ∷ 224 ∷ 228 ∷ 79 ∷ 65 ∷ 184 ∷ 225 ∷ 20 ∷ 212 ∷ 25 ∷ 85 ∷ 207 ∷ 221 ∷ 115 ∷ 72 ∷ 0 ∷ 41 ∷ 193 ∷ 253 ∷
                174 ∷ 249 ∷ 107 ∷ 213 ∷ 0 ∷ 0 ∷ 0 ∷ 0 ∷ 0 ∷ 0 ∷ 0 ∷ 0 ∷ 1 ∷ [],
          )
          ∷ (287, 1 ∷ [])
          ∷ (143, [])
          ∷ []);
      control = sparse ((
        0,
        80 ∷ 73 ∷ 71 ∷ 75 ∷ 1 ∷ 1 ∷ 1 ∷ 11 ∷ 4 ∷ 120 ∷ 177 ∷ 251 ∷ 143 ∷ 178 ∷ 212 ∷ 0 ∷ 11 ∷ 4 ∷ 120 ∷ 177 ∷
            251 ∷ 143 ∷ 178 ∷ 212 ∷ 2 ∷ 0 ∷ 0 ∷ 0 ∷ 0 ∷ 0 ∷ 0 ∷ 0 ∷ 78 ∷ 92 ∷ 228 ∷ 186 ∷ 26 ∷ 15 ∷ 80 ∷ 75 ∷
            193 ∷ 96 ∷ 146 ∷ 118 ∷ 74 ∷ 143 ∷ 30 ∷ 247 ∷ 90 ∷ 175 ∷ 180 ∷ 78 ∷ 16 ∷ 78 ∷ 185 ∷ 129 ∷ 73 ∷ 226 ∷ 123 ∷ 78 ∷
            58 ∷ 183 ∷ 132 ∷ 151 ∷ 65 ∷ 9 ∷ 111 ∷ 179 ∷ 142 ∷ 127 ∷ 93 ∷ 110 ∷ 95 ∷ 201 ∷ 18 ∷ 223 ∷ 15 ∷ 78 ∷ 78 ∷ 110 ∷
            52 ∷ 5 ∷ 135 ∷ 47 ∷ 85 ∷ 36 ∷ 54 ∷ 158 ∷ 12 ∷ 217 ∷ 148 ∷ 211 ∷ 221 ∷ 253 ∷ 195 ∷ 158 ∷ 1 ∷ 91 ∷ 135 ∷ 18 ∷
            162 ∷ 13 ∷ 48 ∷ 55 ∷ 9 ∷ 2 ∷ 0 ∷ 0 ∷ 0 ∷ 0 ∷ 0 ∷ 0 ∷ 1 ∷ [],
      )
          ∷ (
            79,
            220 ∷ 60 ∷ 255 ∷ 13 ∷ 87 ∷ 106 ∷ 42 ∷ 62 ∷ 20 ∷ 236 ∷ 246 ∷ 59 ∷ 76 ∷ 102 ∷ 119 ∷ 162 ∷ 155 ∷ 70 ∷ 220 ∷ 226 ∷
                68 ∷ 211 ∷ 133 ∷ 233 ∷ 231 ∷ 128 ∷ 125 ∷ 56 ∷ 48 ∷ 199 ∷ 33 ∷ 96 ∷ 248 ∷ 71 ∷ 101 ∷ 225 ∷ 209 ∷ 193 ∷ 178 ∷ 36 ∷
                92 ∷ 63 ∷ 1 ∷ 44 ∷ 29 ∷ 43 ∷ 72 ∷ 101 ∷ 13 ∷ 246 ∷ 62 ∷ 10 ∷ 16 ∷ 61 ∷ 138 ∷ 226 ∷ 87 ∷ 120 ∷ 216 ∷ 246 ∷
                201 ∷ 101 ∷ 10 ∷ 166 ∷ 1 ∷ 125 ∷ 53 ∷ 239 ∷ 109 ∷ 38 ∷ 65 ∷ 77 ∷ [],
          )
          ∷ (417, [])
          ∷ []);
      cache = sparse ((0, 1 ∷ 0 ∷ 0 ∷ 0 ∷ 0 ∷ 0 ∷ 0 ∷ 0 ∷ 1 ∷ 0 ∷ 0 ∷ 0 ∷ 0 ∷ 0 ∷ 0 ∷ 0 ∷ 0 ∷ 129 ∷ 64 ∷ [])
          ∷ (
            273,
            1 ∷ 0 ∷ 0 ∷ 0 ∷ 0 ∷ 0 ∷ 0 ∷ 0 ∷ 1 ∷ 130 ∷ 230 ∷ 111 ∷ 105 ∷ 131 ∷ 11 ∷ 7 ∷ 16 ∷ 232 ∷ 58 ∷ 118 ∷
                90 ∷ 201 ∷ 231 ∷ 45 ∷ 250 ∷ 31 ∷ 255 ∷ 47 ∷ 121 ∷ 134 ∷ 148 ∷ 181 ∷ 147 ∷ 130 ∷ 178 ∷ 179 ∷ 185 ∷ 54 ∷ 24 ∷ 65 ∷
                58 ∷ 71 ∷ 182 ∷ 24 ∷ 205 ∷ 81 ∷ 138 ∷ 168 ∷ 250 ∷ 95 ∷ 199 ∷ 224 ∷ 228 ∷ 79 ∷ 65 ∷ 184 ∷ 225 ∷ 20 ∷ 212 ∷ 25 ∷
                85 ∷ 207 ∷ 221 ∷ 115 ∷ 72 ∷ 0 ∷ 41 ∷ 193 ∷ 253 ∷ 174 ∷ 249 ∷ 107 ∷ 213 ∷ [],
          )
          ∷ (73, [])
          ∷ []);
    }

open_control : List ℕ
open_control =
    sparse ((
      0,
      80 ∷ 73 ∷ 71 ∷ 75 ∷ 1 ∷ 1 ∷ 1 ∷ 11 ∷ 4 ∷ 120 ∷ 177 ∷ 251 ∷ 143 ∷ 178 ∷ 212 ∷ 0 ∷ 11 ∷ 4 ∷ 120 ∷ 177 ∷
          251 ∷ 143 ∷ 178 ∷ 212 ∷ 2 ∷ 0 ∷ 0 ∷ 0 ∷ 0 ∷ 0 ∷ 0 ∷ 0 ∷ 78 ∷ 92 ∷ 228 ∷ 186 ∷ 26 ∷ 15 ∷ 80 ∷ 75 ∷
          193 ∷ 96 ∷ 146 ∷ 118 ∷ 74 ∷ 143 ∷ 30 ∷ 247 ∷ 90 ∷ 175 ∷ 180 ∷ 78 ∷ 16 ∷ 78 ∷ 185 ∷ 129 ∷ 73 ∷ 226 ∷ 123 ∷ 78 ∷
          58 ∷ 183 ∷ 132 ∷ 151 ∷ 65 ∷ 9 ∷ 111 ∷ 179 ∷ 142 ∷ 127 ∷ 93 ∷ 110 ∷ 95 ∷ 201 ∷ 18 ∷ 223 ∷ 15 ∷ 78 ∷ 78 ∷ 110 ∷
          52 ∷ 5 ∷ 135 ∷ 47 ∷ 85 ∷ 36 ∷ 54 ∷ 158 ∷ 12 ∷ 217 ∷ 148 ∷ 211 ∷ 221 ∷ 253 ∷ 195 ∷ 158 ∷ 1 ∷ 91 ∷ 135 ∷ 18 ∷
          162 ∷ 13 ∷ 48 ∷ 55 ∷ 9 ∷ 2 ∷ 0 ∷ 0 ∷ 0 ∷ 0 ∷ 0 ∷ 0 ∷ 1 ∷ [],
    )
    ∷ (
      79,
      220 ∷ 60 ∷ 255 ∷ 13 ∷ 87 ∷ 106 ∷ 42 ∷ 62 ∷ 20 ∷ 236 ∷ 246 ∷ 59 ∷ 76 ∷ 102 ∷ 119 ∷ 162 ∷ 155 ∷ 70 ∷ 220 ∷ 226 ∷
          68 ∷ 211 ∷ 133 ∷ 233 ∷ 231 ∷ 128 ∷ 125 ∷ 56 ∷ 48 ∷ 199 ∷ 33 ∷ 96 ∷ 248 ∷ 71 ∷ 101 ∷ 225 ∷ 209 ∷ 193 ∷ 178 ∷ 36 ∷
          92 ∷ 63 ∷ 1 ∷ 44 ∷ 29 ∷ 43 ∷ 72 ∷ 101 ∷ 13 ∷ 246 ∷ 62 ∷ 10 ∷ 16 ∷ 61 ∷ 138 ∷ 226 ∷ 87 ∷ 120 ∷ 216 ∷ 246 ∷
          201 ∷ 101 ∷ 10 ∷ 166 ∷ 1 ∷ 125 ∷ 53 ∷ 239 ∷ 109 ∷ 38 ∷ 65 ∷ 77 ∷ [],
    )
    ∷ (400, 1 ∷ 0 ∷ 0 ∷ 0 ∷ 0 ∷ 0 ∷ 0 ∷ 0 ∷ 0 ∷ 6 ∷ [])
    ∷ (7, [])
    ∷ [])

written :
    seen 256 (write (up_to 48 0) 256 (replicate 64 5) 19 start)
    ≡ record {
      answer = Done 11 0;
      cache = sparse ((0, 5 ∷ [])
          ∷ (16, 4 ∷ [])
          ∷ (
            274,
            1 ∷ 0 ∷ 0 ∷ 0 ∷ 0 ∷ 0 ∷ 0 ∷ 0 ∷ 1 ∷ 130 ∷ 230 ∷ 111 ∷ 105 ∷ 131 ∷ 11 ∷ 7 ∷ 16 ∷ 232 ∷ 58 ∷ 118 ∷
                90 ∷ 201 ∷ 231 ∷ 45 ∷ 250 ∷ 31 ∷ 255 ∷ 47 ∷ 121 ∷ 134 ∷ 148 ∷ 181 ∷ 147 ∷ 130 ∷ 178 ∷ 179 ∷ 185 ∷ 54 ∷ 24 ∷ 65 ∷
                58 ∷ 122 ∷ 17 ∷ 181 ∷ 6 ∷ 189 ∷ 190 ∷ 219 ∷ 186 ∷ 95 ∷ 199 ∷ 224 ∷ 228 ∷ 79 ∷ 65 ∷ 184 ∷ 225 ∷ 20 ∷ 212 ∷ 25 ∷
                85 ∷ 207 ∷ 221 ∷ 115 ∷ 72 ∷ 0 ∷ 41 ∷ 193 ∷ 253 ∷ 174 ∷ 249 ∷ 107 ∷ 213 ∷ [],
          )
          ∷ (73, [])
          ∷ []);
      cell = sparse ((
        0,
        180 ∷ 238 ∷ 212 ∷ 203 ∷ 125 ∷ 189 ∷ 203 ∷ 44 ∷ 97 ∷ 39 ∷ 96 ∷ 123 ∷ 152 ∷ 92 ∷ 179 ∷ 111 ∷ 51 ∷ 191 ∷ 88 ∷ 236 ∷
            76 ∷ 202 ∷ 252 ∷ 204 ∷ 4 ∷ 95 ∷ 120 ∷ 65 ∷ 240 ∷ 196 ∷ 174 ∷ 108 ∷ 96 ∷ 109 ∷ 10 ∷ 57 ∷ 236 ∷ 129 ∷ 204 ∷ 10 ∷
            32 ∷ 92 ∷ 16 ∷ 200 ∷ 100 ∷ 84 ∷ 215 ∷ 206 ∷ 19 ∷ 107 ∷ 131 ∷ 205 ∷ 111 ∷ 139 ∷ 24 ∷ 45 ∷ 186 ∷ 252 ∷ 92 ∷ 118 ∷
            97 ∷ 112 ∷ 148 ∷ 195 ∷ 0 ∷ 88 ∷ 110 ∷ 57 ∷ 32 ∷ 223 ∷ 169 ∷ 160 ∷ [],
      )
          ∷ []);
    }
unfolding run sparse up_to seen start
written = refl

read-blank :
    given (read (up_to 48 0) 3 4 (replicate 64 7) start)
    ≡ (Blank 0, replicate 64 255)
unfolding run sparse up_to given start
read-blank = refl

read-cut :
    given (read (up_to 48 0) 64 4 (replicate 64 7) start)
    ≡ (Cut 4, replicate 64 7)
unfolding run sparse up_to given start
read-cut = refl

read_past :
    given (read (up_to 48 0) 512 4 (replicate 64 7) start)
    ≡ (Refused 6 0 0 0, replicate 64 7)
unfolding run sparse up_to given start
read_past = refl

read-damaged :
    given (read (up_to 48 0) 0 4 (replicate 64 7)
    (record { array = set start.array 0 9; control = start.control; cache = start.cache }))
    ≡ (Refused 25 0 0 0, replicate 64 7)
unfolding run sparse up_to given start
read-damaged = refl

front :
    turn_front 1 start.control start.cache 0 []
    ≡ record {
      number = 512;
      bytes = sparse ((8, 129 ∷ 64 ∷ [])
          ∷ (62, [])
          ∷ []);
    } ∷ []
unfolding run sparse up_to start
front = refl

turned :
    shapes (turn_batches (up_to 48 0) 0 start start.cache [])
    ≡ (512 ∷ 0 ∷ [], 1 ∷ 0 ∷ 0 ∷ 0 ∷ 0 ∷ 0 ∷ 0 ∷ 0 ∷ 0 ∷ 6 ∷ 0 ∷ 0 ∷ 0 ∷ 0 ∷ 0 ∷ 0 ∷ 0 ∷ [])
    ∷ (1 ∷ [], 1 ∷ 0 ∷ 0 ∷ 0 ∷ 0 ∷ 0 ∷ 0 ∷ 0 ∷ 0 ∷ 4 ∷ 0 ∷ 0 ∷ 0 ∷ 0 ∷ 0 ∷ 0 ∷ 0 ∷ [])
    ∷ (512 ∷ 2 ∷ [], 0 ∷ 0 ∷ 0 ∷ 0 ∷ 0 ∷ 0 ∷ 0 ∷ 0 ∷ 0 ∷ 0 ∷ 0 ∷ 0 ∷ 0 ∷ 0 ∷ 0 ∷ 0 ∷ 0 ∷ [])
    ∷ []
unfolding run sparse up_to shapes start
turned = refl

resumed :
    shapes (turn_batches (up_to 48 0) 0
    (record { array = start.array; control = open_control; cache = start.cache }) start.cache [])
    ≡ (1 ∷ [], 1 ∷ 0 ∷ 0 ∷ 0 ∷ 0 ∷ 0 ∷ 0 ∷ 0 ∷ 0 ∷ 4 ∷ 0 ∷ 0 ∷ 0 ∷ 0 ∷ 0 ∷ 0 ∷ 0 ∷ [])
    ∷ (512 ∷ 2 ∷ [], 0 ∷ 0 ∷ 0 ∷ 0 ∷ 0 ∷ 0 ∷ 0 ∷ 0 ∷ 0 ∷ 0 ∷ 0 ∷ 0 ∷ 0 ∷ 0 ∷ 0 ∷ 0 ∷ 0 ∷ [])
    ∷ []
unfolding run sparse up_to shapes start open_control
resumed = refl

last :
    batches_of 1 0 (up_to 48 0) start.array start.cache 0 0 [] (2 ∷ [])
    ≡ record {
      cells = record {
        number = 512;
        bytes = sparse ((0, 1 ∷ 0 ∷ 0 ∷ 0 ∷ 0 ∷ 0 ∷ 0 ∷ 0 ∷ 129 ∷ 64 ∷ [])
            ∷ (62, [])
            ∷ []);
      } ∷ record {
        number = 2;
        bytes = sparse ((
          0,
          167 ∷ 214 ∷ 10 ∷ 243 ∷ 115 ∷ 10 ∷ 122 ∷ 73 ∷ 71 ∷ 136 ∷ 28 ∷ 8 ∷ 169 ∷ 250 ∷ 54 ∷ 60 ∷ 7 ∷ 12 ∷ 163 ∷ 4 ∷
              119 ∷ 24 ∷ 131 ∷ 115 ∷ 185 ∷ 251 ∷ 251 ∷ 38 ∷ 173 ∷ 153 ∷ 30 ∷ 238 ∷ 62 ∷ 139 ∷ 12 ∷ 71 ∷ 147 ∷ 150 ∷ 243 ∷ 127 ∷
              38 ∷ 60 ∷ 247 ∷ 135 ∷ 87 ∷ 110 ∷ 160 ∷ 108 ∷ 123 ∷ 131 ∷ 19 ∷ 126 ∷ 238 ∷ 75 ∷ 158 ∷ 74 ∷ 123 ∷ 86 ∷ 153 ∷ 79 ∷
              226 ∷ 71 ∷ 172 ∷ 125 ∷ 1 ∷ 42 ∷ 80 ∷ 248 ∷ 185 ∷ 89 ∷ 117 ∷ 124 ∷ [],
        )
            ∷ []);
      } ∷ [];
      root = 15132419721498076737;
      section = 0 ∷ 0 ∷ 0 ∷ 0 ∷ 0 ∷ 0 ∷ 0 ∷ 0 ∷ 0 ∷ 0 ∷ 0 ∷ 0 ∷ 0 ∷ 0 ∷ 0 ∷ 0 ∷ 0 ∷ [];
    } ∷ []
unfolding run sparse up_to start
last = refl

finished :
    before_last (turn_batches (up_to 48 0) 0 start start.cache [])
    ≡ 14
unfolding run sparse up_to start
finished = refl

blocks :
    rebuild_blocks 1 (up_to 48 0) (media start.array start.control) 0 (1 ∷ 0 ∷ 0 ∷ 0 ∷ []) (empty_cache 1) 0
    ≡ so_far (sparse ((0, 1 ∷ 0 ∷ 0 ∷ 0 ∷ 0 ∷ 0 ∷ 0 ∷ 0 ∷ 1 ∷ 0 ∷ 0 ∷ 0 ∷ 0 ∷ 0 ∷ 0 ∷ 0 ∷ 0 ∷ 129 ∷ 64 ∷ [])
    ∷ (419, [])
    ∷ [])) 3
unfolding run sparse up_to start
blocks = refl

nodes :
    rebuild_nodes 1 (up_to 48 0) start.array 4 (1 ∷ 0 ∷ [])
    (sparse ((0, 1 ∷ 0 ∷ 0 ∷ 0 ∷ 0 ∷ 0 ∷ 0 ∷ 0 ∷ 1 ∷ 0 ∷ 0 ∷ 0 ∷ 0 ∷ 0 ∷ 0 ∷ 0 ∷ 0 ∷ 129 ∷ 64 ∷ [])
    ∷ (419, [])
    ∷ []))
    ≡ sparse ((0, 1 ∷ 0 ∷ 0 ∷ 0 ∷ 0 ∷ 0 ∷ 0 ∷ 0 ∷ 1 ∷ 0 ∷ 0 ∷ 0 ∷ 0 ∷ 0 ∷ 0 ∷ 0 ∷ 0 ∷ 129 ∷ 64 ∷ [])
    ∷ (
      273,
      1 ∷ 0 ∷ 0 ∷ 0 ∷ 0 ∷ 0 ∷ 0 ∷ 0 ∷ 1 ∷ 130 ∷ 230 ∷ 111 ∷ 105 ∷ 131 ∷ 11 ∷ 7 ∷ 16 ∷ 232 ∷ 58 ∷ 118 ∷
          90 ∷ 201 ∷ 231 ∷ 45 ∷ 250 ∷ 31 ∷ 255 ∷ 47 ∷ 121 ∷ 134 ∷ 148 ∷ 181 ∷ 147 ∷ 130 ∷ 178 ∷ 179 ∷ 185 ∷ 54 ∷ 24 ∷ 65 ∷
          58 ∷ 71 ∷ 182 ∷ 24 ∷ 205 ∷ 81 ∷ 138 ∷ 168 ∷ 250 ∷ 95 ∷ 199 ∷ 224 ∷ 228 ∷ 79 ∷ 65 ∷ 184 ∷ 225 ∷ 20 ∷ 212 ∷ 25 ∷
          85 ∷ 207 ∷ 221 ∷ 115 ∷ 72 ∷ 0 ∷ 41 ∷ 193 ∷ 253 ∷ 174 ∷ 249 ∷ 107 ∷ 213 ∷ [],
    )
    ∷ (73, [])
    ∷ [])
unfolding run sparse up_to start
nodes = refl

open_blocks :
    rebuild_blocks 1 (up_to 48 0) (media start.array (open_control)) 0 (1 ∷ 0 ∷ 0 ∷ 0 ∷ []) (empty_cache 1) 0
    ≡ so_far (sparse ((0, 1 ∷ 0 ∷ 0 ∷ 0 ∷ 0 ∷ 0 ∷ 0 ∷ 0 ∷ 1 ∷ [])
    ∷ (429, [])
    ∷ [])) 0
unfolding run sparse up_to start open_control
open_blocks = refl

failing :
    rebuild_blocks 1 (up_to 48 0) (media (set (set start.array 136 5) 36873 63) start.control)
    0 (1 ∷ 0 ∷ 0 ∷ 0 ∷ []) (empty_cache 1) 0
    ∷ rebuild_blocks 1 (up_to 48 0) (media (set (set start.array 208 4) 36873 63) start.control)
    0 (1 ∷ 0 ∷ 0 ∷ 0 ∷ []) (empty_cache 1) 0
    ∷ rebuild_blocks 1 (up_to 48 0) (media (set (set (set start.array 208 4) 4672 1) 36944 126) start.control)
    0 (1 ∷ 2 ∷ 0 ∷ 0 ∷ []) (empty_cache 1) 0
    ∷ []
    ≡ failed 28 1
    ∷ failed 32 1
    ∷ failed 28 2
    ∷ []
unfolding run sparse up_to start
failing = refl

failing-told :
    (recover_rebuilt (up_to 48 0) 3 start [] (failed 28 1)).answer
    ∷ (recover_rebuilt (up_to 48 0) 3 start [] (failed 32 1)).answer
    ∷ (recover_rebuilt (up_to 48 0) 3 start [] (failed 28 2)).answer
    ∷ []
    ≡ Refused 28 3 1 0
    ∷ Refused 32 3 1 0
    ∷ Refused 28 3 2 0
    ∷ []
unfolding run sparse up_to start
failing-told = refl

chosen :
    by_choice None
    ∷ by_choice Several
    ∷ line_step (record {
      family = 1;
      keys = up_to 48 0;
      array = replicate 72 0 ++ (sparse ((
        0,
        5 ∷ 5 ∷ 5 ∷ 5 ∷ 5 ∷ 5 ∷ 5 ∷ 5 ∷ 5 ∷ 5 ∷ 5 ∷ 5 ∷ 5 ∷ 5 ∷ 5 ∷ 5 ∷ 5 ∷ 5 ∷ 5 ∷ 5 ∷
            5 ∷ 5 ∷ 5 ∷ 5 ∷ 5 ∷ 5 ∷ 5 ∷ 5 ∷ 5 ∷ 5 ∷ 5 ∷ 5 ∷ 5 ∷ 5 ∷ 5 ∷ 5 ∷ 5 ∷ 5 ∷ 5 ∷ 5 ∷
            5 ∷ 5 ∷ 5 ∷ 5 ∷ 5 ∷ 5 ∷ 5 ∷ 5 ∷ 5 ∷ 5 ∷ 5 ∷ 5 ∷ 5 ∷ 5 ∷ 5 ∷ 5 ∷ 5 ∷ 5 ∷ 5 ∷ 5 ∷
            5 ∷ 5 ∷ 5 ∷ 5 ∷ 14 ∷ 227 ∷ 28 ∷ 140 ∷ 28 ∷ 228 ∷ 66 ∷ 161 ∷ [],
      )
          ∷ []));
      major = 3;
    }) 1 3
    ∷ []
    ≡ bad 33
    ∷ bad 34
    ∷ to 6
    ∷ []
unfolding run sparse up_to
chosen = refl

read-judged :
    access_refusal (up_to 48 0) 0 (replicate 64 0)
    (record { array = start.array; control = open_control; cache = set start.cache 0 9 })
    ≡ 23
unfolding run sparse up_to start open_control
read-judged = refl

turn-judged :
    turn_refusal (up_to 48 0) 1 (record { array = start.array; control = open_control; cache = set start.cache 0 9 })
    ≡ 23
unfolding run sparse up_to start open_control
turn-judged = refl

other-judged :
    turn_refusal (up_to 48 0) 1 (record { array = start.array; control = open_control; cache = start.cache })
    ≡ 30
unfolding run sparse up_to start open_control
other-judged = refl

listed :
    dirty_pages start.control (sparse ((0, 5 ∷ 0 ∷ 0 ∷ 0 ∷ 0 ∷ 0 ∷ 0 ∷ 0 ∷ 1 ∷ [])
    ∷ (64, 2 ∷ 0 ∷ 0 ∷ 0 ∷ 0 ∷ 0 ∷ 0 ∷ 0 ∷ 1 ∷ [])
    ∷ (64, 7 ∷ [])
    ∷ (72, 4 ∷ 0 ∷ 0 ∷ 0 ∷ 0 ∷ 0 ∷ 0 ∷ 0 ∷ 1 ∷ [])
    ∷ (64, 1 ∷ 0 ∷ 0 ∷ 0 ∷ 0 ∷ 0 ∷ 0 ∷ 0 ∷ 1 ∷ [])
    ∷ (137, [])
    ∷ [])) (replicate 32 0)
    ≡ record {
      answer = Done 0 0;
      output = 1 ∷ 0 ∷ 0 ∷ 0 ∷ 0 ∷ 0 ∷ 0 ∷ 0 ∷ 3 ∷ 0 ∷ 0 ∷ 0 ∷ 0 ∷ 0 ∷ 0 ∷ 0 ∷ 4 ∷ 0 ∷ 0 ∷ 0 ∷
          0 ∷ 0 ∷ 0 ∷ 0 ∷ 255 ∷ 255 ∷ 255 ∷ 255 ∷ 255 ∷ 255 ∷ 255 ∷ 255 ∷ [];
    }
unfolding run sparse up_to start
listed = refl
