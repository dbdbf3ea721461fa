-- tests and lists, numbers and their bits and bytes
pub mod Tests
pub mod CodeTests
pub mod Lists
pub mod Bits
pub mod Bytes
pub mod Put
-- mirrors, leaves, trees
pub mod Eight
pub mod Mirrors
pub mod Leaves
pub mod Trees
pub mod CellPoints
-- outlines
pub mod Orders
pub mod OutlineCells
pub mod OutlineWriting
pub mod OutlineReading
pub mod OutlineFits
pub mod Outlines
pub mod OutlineClaim
-- words
pub mod Kept
pub mod TrueCounts
pub mod Chains
pub mod ChainEnds
pub mod ChainGrowing
pub mod ChainWords
pub mod ChainLinks
pub mod Padded
pub mod Regions
pub mod Rows
pub mod Words
pub mod Undamaged
pub mod SoundWords
-- walks
pub mod Walking
pub mod Deciding
pub mod CellVoxels
-- matching and adding
pub mod Matching
pub mod Invariant
pub mod Symmetries
pub mod SymmetryLoop
pub mod Seeking
pub mod Growing
pub mod Keeping
pub mod Occurring
pub mod Parts
pub mod Adding
pub mod AddingTrees
pub mod Capacity
pub mod Counting
pub mod AddingFine
pub mod Places
-- what is not looked at
pub mod UnseenWords
pub mod UnseenAnswers
pub mod UnseenWrites
pub mod Scratch
pub mod Unseen
-- a scene's record by its pointers
pub mod StoreFacts
pub mod Records
-- sums over cubes and boxes, solid counts
pub mod Sums
pub mod Boxes
pub mod Counts
pub mod Keys
pub mod ChainCounts
pub mod BoxTallies
-- searches
pub mod SearchLaws
pub mod SharingCells
pub mod SearchTrue
-- any list of calls on a new store
pub mod TreesRead
pub mod MirrorClaim
pub mod Filled
pub mod InOrder
pub mod Filling
pub mod RefusalNumbers
pub mod Refusals
pub mod Running
pub mod Walks
pub mod Holding
pub mod CountClaim
pub mod ChainClaim
pub mod AnyClaim
pub mod NoDamage
pub mod Differing
pub mod Alone
pub mod CellWalk
pub mod Emptiness
pub mod RoomAnswers
pub mod RunClaims
pub mod WalkClaim
-- lines
pub mod LineMoments
pub mod LineSteps
pub mod LineMeeting
pub mod LineTested
pub mod FirstFailing
pub mod LineBetween
pub mod LineSkipping
pub mod SightClaim
-- packed files
pub mod OpenClaim
pub mod PackedLists
pub mod PackedWalk
pub mod ProperClaim
pub mod ProperVoxels
pub mod ProperEmptiness
pub mod GraphCounts
pub mod RecordSizes
pub mod RecordReading
pub mod RecordCells
pub mod Layouts
pub mod LayoutBytes
pub mod RecordBytes
pub mod RoundTrip
pub mod ProperCounts
pub mod PackedOrder
pub mod Weights
pub mod RenumberedPointers
pub mod Renumbering
pub mod PackedReachable
pub mod PackedGraph
pub mod Packing
pub mod PackedMost
pub mod LongPointers
pub mod SamePack
pub mod PackClaim
pub mod PackedClaims
-- the headset profile
pub mod HeadsetCheck
pub mod HeadsetPack
pub mod HeadsetClaim
