-- The number of each refusal, and what a check of a call's inputs answers as one number. Assumes nothing.
use Rattle.std.specs.Prelude.{ℕ, Result, Ok, Err}
use Rattle.answer.specs.declared.Refusal.{Refusal}
use Rattle.answer.specs.declared.Refusal.TheVariants.{BadDepth, BadKeysLength, BadControlLength, BadArrayLength, BadCacheLength, BadLine, BadBufferLength, BadControl, Pending, BadCache, BadNode, BadData, Worn, BadShadow, BadPhase, BadRoot, OpenPage, WornPage, BadCounter, NoCounter, SeveralCounters}

abbrev pub number_of : Refusal → ℕ
number_of BadDepth = 1
number_of BadKeysLength = 2
number_of BadControlLength = 3
number_of BadArrayLength = 4
number_of BadCacheLength = 5
number_of BadLine = 6
number_of BadBufferLength = 7
number_of BadControl = 21
number_of Pending = 22
number_of BadCache = 23
number_of BadNode = 24
number_of BadData = 25
number_of Worn = 26
number_of BadShadow = 27
number_of BadPhase = 28
number_of BadRoot = 29
number_of OpenPage = 30
number_of WornPage = 31
number_of BadCounter = 32
number_of NoCounter = 33
number_of SeveralCounters = 34

-- 0 where nothing is refused
abbrev pub refusal_of : {T : Type 0} → Result T Refusal → ℕ
refusal_of (Ok x) = 0
refusal_of (Err r) = number_of r
